-- The numbers of the look-up.
use mathlib.Core.Path.{◌∙◌, ap}
use Rattle.rules.specs.Listing.{lookup_number, lookup_position, lookup_address}
use Rattle.wire_pairs.specs.View.{pair_in}
use Rattle.lathepetal.proofs.ring.lathepetal_look_up.Goals as goal

pub returns : goal.returns
unfolding pair_in
returns c =
    let h = c.look_up.ensures in
    let n = c.number_and_place-refusal.ensures in
    (n.0 ∙ ap lookup_number h, n.1 ∙ ap lookup_position h, n.2 ∙ ap lookup_address h)
