-- INVALID, then NEW.
use Rattle.row_entry.specs.View.{row_of}
use Rattle.wire_orders.proofs.Writing.{told_else, told_room, told_room_2, told_wrote}
use Rattle.ring_tell.specs.Told.{row_told}
use Rattle.ring_state.specs.State.{state_of}
use Rattle.rules.specs.Ending.{gained, lost, tell}
use Rattle.rules.specs.Order.{Order, INVALID, NEW}
use mathlib.Core.List.{List}
use mathlib.Core.Path.{◌∙◌, refl, sym}
use Rattle.ring_tell.proofs.told.tell_entry.Goals as goal

pub write_change-at-requires : goal.write_change-at-requires
unfolding row_told
write_change-at-requires c =
    let losses : List Order = tell INVALID c.args.size (lost (row_of c.args.before.now) (row_of c.args.after.now)) in
    let gains : List Order = tell NEW c.args.size (gained (row_of c.args.before.now) (row_of c.args.after.now)) in
    (c.requires.0, told_room c.args.pass (state_of c.args.state.0) (losses) (gains) refl (sym c.is_ok.ensures ∙ c.if-not-is_ok.false) c.args.out.now c.requires.1)

pub write_change-requires : goal.write_change-requires
unfolding row_told
write_change-requires c =
    let losses : List Order = tell INVALID c.args.size (lost (row_of c.args.before.now) (row_of c.args.after.now)) in
    let gains : List Order = tell NEW c.args.size (gained (row_of c.args.before.now) (row_of c.args.after.now)) in
    (c.requires.0, told_room_2 c.args.pass (state_of c.args.state.0) (losses) (gains) refl (sym c.is_ok.ensures ∙ c.if-not-is_ok.false) c.write_change-at.ensures c.requires.1)

pub returns : goal.returns
unfolding row_told
returns c =
    let losses : List Order = tell INVALID c.args.size (lost (row_of c.args.before.now) (row_of c.args.after.now)) in
    let gains : List Order = tell NEW c.args.size (gained (row_of c.args.before.now) (row_of c.args.after.now)) in
    told_wrote c.args.pass (state_of c.args.state.0) (losses) (gains) refl (sym c.is_ok.ensures ∙ c.if-not-is_ok.false) c.write_change-at.ensures c.write_change.ensures

pub returns-then-not-is_ok : goal.returns-then-not-is_ok
unfolding row_told
returns-then-not-is_ok c =
    let losses : List Order = tell INVALID c.args.size (lost (row_of c.args.before.now) (row_of c.args.after.now)) in
    let gains : List Order = tell NEW c.args.size (gained (row_of c.args.before.now) (row_of c.args.after.now)) in
    told_else c.args.pass (state_of c.args.state.0) (losses) (gains) refl c.args.out.now (sym c.is_ok.ensures ∙ c.if-not-is_ok.true)
