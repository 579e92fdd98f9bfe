-- Of the entries of the ring.
use Rattle.std.proofs.Common.{rules}
use mathlib.Core.List.{List, map}
use mathlib.Core.Path.{◌∙◌, ◌≡◌, ap}
use lib.ListN.{length}
use Rattle.registry.specs.View.{view_of}
use Rattle.registry.proofs.Ring.{ring_firsts, ring_whole}
use Rattle.ring_rows.specs.View.{filled_rows, listed_entries}
use Rattle.row_entry.specs.declared.NodeEntry.{NodeEntry}
use Rattle.row_entry.specs.View.{row_of}
use Rattle.rules.specs.House.{max_units}
use Rattle.rules.specs.Picture.{Row}
use Rattle.rules_diff.specs.Differences.{listed_rows, listed_rows_from}
use Rattle.registry.proofs.image.RegistryImage.listed_rows.Goals as goal

pub returns : goal.returns
unfolding view_of listed_rows
returns c =
    let full : length c.args.self.now.entries ≡ max_units = search rules in
    let whole = ring_whole c.args.self.now.units c.ring.result.now c.ring.ensures.length in (
      c.rows_of.ensures.0
          ∙ ap (λ (es : List NodeEntry). filled_rows (listed_entries 1 es))
          (whole ∙ c.ring.ensures.entries ∙ ring_firsts c.args.self.now.units c.args.self.now.entries full),
      c.rows_of.ensures.1 ∙ ap (λ (rs : List Row). listed_rows_from 1 rs) (ap (map row_of) whole ∙ c.ring.ensures.rows),
    )
