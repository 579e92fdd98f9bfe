-- What follows for whoever reads a flat listing place by place.
use Rattle.std.specs.Prelude.{◌≤◌, ◌≡◌, List, map, length}
use Rattle.rules.specs.House.{max_entries}
use Rattle.rules.specs.Listing.{Entry}
use Rattle.wire_pairs.specs.View.{pairs_from}
use Rattle.ring_listing.specs.View.{flat_of, entries_in}

pub record Promises : Type 0 where
  -- a flat listing of as many entries as it has places holds these entries, in their order
  pub holds : (es : List Entry) → length es ≤ max_entries → entries_in (flat_of es) ≡ es
  -- its blocks and numbers side by side are the listed pairs, in their order
  pub pairs : (es : List Entry) → length es ≤ max_entries
      → pairs_from (flat_of es).count (flat_of es).blocks (flat_of es).numbers ≡ map (λ (e : Entry). e.pair) es
