-- Of the entries of the ring.
use Prim.Native.Nat.{◌≤◌}
use lib.ListN.{length}
use mathlib.Core.List.{List, map}
use mathlib.Core.Path.{◌≡◌, ◌∙◌, ap, subst}
use Rattle.ring_listing.specs.View.{flat_of}
use Rattle.registry.specs.View.{view_of}
use Rattle.registry.proofs.Ring.{ring_whole}
use Rattle.row_entry.specs.View.{row_of}
use Rattle.rules.specs.House.{max_entries}
use Rattle.rules.specs.Listing.{entries_from, listing}
use Rattle.rules.specs.Picture.{Row}
use Rattle.registry.proofs.image.RegistryImage.listing.Goals as goal

pub returns : goal.returns
unfolding view_of listing
returns c =
    let rows = ap (map row_of) (ring_whole c.args.self.now.units c.ring.result.now c.ring.ensures.length) ∙ c.ring.ensures.rows in
    subst (λ (rs : List Row). (c.listing_of.result ≡ flat_of (entries_from 1 rs)) × (length (entries_from 1 rs) ≤ max_entries)) rows c.listing_of.ensures
