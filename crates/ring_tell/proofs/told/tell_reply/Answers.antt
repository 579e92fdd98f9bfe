-- What is told of the entry, then the SET.
use Rattle.ring_state.specs.State.{state_of}
use Rattle.row_entry.specs.View.{row_of}
use Rattle.ring_tell.specs.Told.{row_told}
use Rattle.row_renumber.specs.Marks.{renumbering_of}
use Rattle.wire_orders.proofs.Writing.{start_first, start_second, wrote_orders}
use Rattle.rules.specs.Step.{set_order}
use mathlib.Core.Path.{refl}
use Rattle.ring_tell.proofs.told.tell_reply.Goals as goal

pub tell_entry-told-requires : goal.tell_entry-told-requires
tell_entry-told-requires c =
    let a = c.args in
    (c.requires.0, start_first a.pass (row_told (state_of a.state.0) a.size (row_of a.before.now) (row_of a.after.now)) (set_order a.position.0 a.address.0 (renumbering_of a.step)) refl a.out.now c.requires.1)

pub write_renumbering-requires : goal.write_renumbering-requires
write_renumbering-requires c =
    let a = c.args in
    start_second a.pass (row_told (state_of a.state.0) a.size (row_of a.before.now) (row_of a.after.now)) (set_order a.position.0 a.address.0 (renumbering_of a.step)) refl a.out.now c.requires.1 c.tell_entry-told.ensures

pub returns : goal.returns
returns c =
    let a = c.args in
    wrote_orders a.pass (row_told (state_of a.state.0) a.size (row_of a.before.now) (row_of a.after.now)) (set_order a.position.0 a.address.0 (renumbering_of a.step)) c.tell_entry-told.ensures c.write_renumbering.ensures
