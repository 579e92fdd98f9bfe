-- INVALID, then NEW.
use Rattle.row_entry.specs.View.{row_of}
use Rattle.wire_orders.proofs.Writing.{told_else, told_room, told_room_2, told_wrote}
use Rattle.ring_tell.specs.Told.{rows_told}
use Rattle.ring_state.specs.State.{state_of}
use Rattle.rules.specs.Ending.{gained, lost, tell_rows}
use Rattle.rules.specs.Order.{Order, INVALID, NEW}
use mathlib.Core.List.{List, map}
use mathlib.Core.Path.{◌∙◌, refl, sym}
use Rattle.ring_tell.proofs.told.tell_entries.Goals as goal

pub write_changes-at-requires : goal.write_changes-at-requires
unfolding rows_told
write_changes-at-requires c =
    let losses : List Order = tell_rows INVALID lost c.args.size (map row_of c.args.before.now) (map row_of c.args.after.now) in
    let gains : List Order = tell_rows NEW gained c.args.size (map row_of c.args.before.now) (map row_of c.args.after.now) in
    (c.requires.0, told_room c.args.pass (state_of c.args.state.0) (losses) (gains) refl (sym c.is_ok.ensures ∙ c.if-not-is_ok.false) c.args.out.now c.requires.1)

pub write_changes-requires : goal.write_changes-requires
unfolding rows_told
write_changes-requires c =
    let losses : List Order = tell_rows INVALID lost c.args.size (map row_of c.args.before.now) (map row_of c.args.after.now) in
    let gains : List Order = tell_rows NEW gained c.args.size (map row_of c.args.before.now) (map row_of c.args.after.now) in
    (c.requires.0, told_room_2 c.args.pass (state_of c.args.state.0) (losses) (gains) refl (sym c.is_ok.ensures ∙ c.if-not-is_ok.false) c.write_changes-at.ensures c.requires.1)

pub returns : goal.returns
unfolding rows_told
returns c =
    let losses : List Order = tell_rows INVALID lost c.args.size (map row_of c.args.before.now) (map row_of c.args.after.now) in
    let gains : List Order = tell_rows NEW gained c.args.size (map row_of c.args.before.now) (map row_of c.args.after.now) in
    told_wrote c.args.pass (state_of c.args.state.0) (losses) (gains) refl (sym c.is_ok.ensures ∙ c.if-not-is_ok.false) c.write_changes-at.ensures c.write_changes.ensures

pub returns-then-not-is_ok : goal.returns-then-not-is_ok
unfolding rows_told
returns-then-not-is_ok c =
    let losses : List Order = tell_rows INVALID lost c.args.size (map row_of c.args.before.now) (map row_of c.args.after.now) in
    let gains : List Order = tell_rows NEW gained c.args.size (map row_of c.args.before.now) (map row_of c.args.after.now) in
    told_else c.args.pass (state_of c.args.state.0) (losses) (gains) refl c.args.out.now (sym c.is_ok.ensures ∙ c.if-not-is_ok.true)
