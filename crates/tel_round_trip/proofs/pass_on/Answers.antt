-- `pass_on` gives `join` the telegram that the rules cut.
use Rattle.std.proofs.Common.{refl, sym, ap}
use lib.Seq.{length-take-le}
use Rattle.rules.specs.Telegram.{join}
use Rattle.tel_join_state.specs.Answers.{joining_of}
use Rattle.tel_join_state.proofs.Joining.{along}
use Rattle.tel_round_trip.proofs.Passing.{never, inside, read_back}
use Rattle.tel_round_trip.proofs.pass_on.Goals as goal

pub returns-in_err-length : goal.returns-in_err-length
returns-in_err-length c =
    let a = c.args in
    let p = c.requires in
    absurd (never a.l a.msg_id a.payload.now a.number p.0 p.1 p.2 p.3 _ refl c.in_err-length.ensures)

pub slice_bounds-telegram-end : goal.slice_bounds-telegram-end
slice_bounds-telegram-end c =
    let a = c.args in
    let p = c.requires in
    inside a.l a.msg_id a.payload.now a.number p.0 p.1 p.2 p.3 _ refl c.in_ok-length.ensures

pub slice_bounds-join-end : goal.slice_bounds-join-end
slice_bounds-join-end c =
    let a = c.args in
    let p = c.requires in
    sym (length-take-le _ _ (inside a.l a.msg_id a.payload.now a.number p.0 p.1 p.2 p.3 _ refl c.in_ok-length.ensures))

pub returns : goal.returns
returns c =
    let a = c.args in
    let p = c.requires in
    along (ap (join a.l (joining_of a.state.now) a.buffer.now) (sym (read_back a.l a.msg_id a.payload.now a.number p.0 p.1 p.2 p.3 _ refl c.in_ok-length.ensures))) c.join.ensures
