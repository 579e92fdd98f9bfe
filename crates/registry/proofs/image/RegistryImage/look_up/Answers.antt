-- The state first.
use Rattle.registry.specs.View.{view_of}
use Rattle.registry.proofs.Ring.{ring_whole}
use Rattle.rules.specs.Listing.{entries_from, first_of, listing, look_up}
use Rattle.rules.specs.Picture.{Row}
use Rattle.row_entry.specs.View.{row_of}
use Rattle.wire_pairs.specs.View.{pair_in}
use mathlib.Core.List.{List, map}
use mathlib.Core.Path.{◌∙◌, ap, sym}
use Rattle.registry.proofs.image.RegistryImage.look_up.Goals as goal

pub returns-then-not-is_ok : goal.returns-then-not-is_ok
unfolding view_of look_up
returns-then-not-is_ok c = simp (sym c.is_ok.ensures ∙ c.if-not-is_ok.true)

pub returns : goal.returns
unfolding view_of look_up listing
returns c =
    let rows = ap (map row_of) (ring_whole c.args.self.now.units c.ring.result.now c.ring.ensures.length) ∙ c.ring.ensures.rows in
    simp (sym c.is_ok.ensures ∙ c.if-not-is_ok.false) (c.find.ensures ∙ ap (λ (rs : List Row). first_of (pair_in c.args.pair) (entries_from 1 rs)) rows)
