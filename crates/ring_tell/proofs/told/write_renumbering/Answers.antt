-- By the case.
use Rattle.wire_pairs.specs.View.{pair_in, pair_of}
use Rattle.row_renumber.specs.Marks.{renumbering_of}
use Rattle.wire_orders.proofs.Writing.{set_none, set_room, set_wrote}
use mathlib.Core.Path.{ap}
use Rattle.ring_tell.proofs.told.write_renumbering.Goals as goal

pub write_set-requires : goal.write_set-requires
unfolding pair_in pair_of
write_set-requires c =
    set_room c.args.pass c.args.position.0 c.args.address.0 _ _ _ _ c.args.at (ap renumbering_of c.in-Some.is) c.requires

pub returns-in-None : goal.returns-in-None
returns-in-None c =
    set_none c.args.pass c.args.position.0 c.args.address.0 c.args.out.now c.args.at (ap renumbering_of c.in-None.is)

pub returns-in-Some : goal.returns-in-Some
unfolding pair_in pair_of
returns-in-Some c =
    set_wrote c.args.pass c.args.position.0 c.args.address.0 _ _ _ _ (ap renumbering_of c.in-Some.is) c.write_set.ensures
