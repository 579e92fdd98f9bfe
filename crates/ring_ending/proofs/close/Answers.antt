-- The tests decide which orders are written, one behind the other.
use Rattle.ring_ending.proofs.Closing.{are_orders, is_delay, is_state, wrote_both}
use Rattle.ring_state.specs.State.{runs, state_of}
use Rattle.wire_orders.proofs.Writing.{room_first, room_second}
use Rattle.rules.specs.Order.{OK, WAIT_LONG, WAIT_SHORT}
use mathlib.Core.Bool.{cond}
use mathlib.Core.List.{[], ◌∷◌}
use Rattle.ring_ending.proofs.close.Goals as goal

pub write_ok-told-requires : goal.write_ok-told-requires
write_ok-told-requires c =
    let a = c.args in
    let e = are_orders (state_of a.state.0) (runs a.delay.0) a.seen.open a.seen.silent a.seen.short c.becomes_ok-ok.ensures c.settled-next.ensures.0 c.starts_delay-starts.ensures in
    room_first a.pass (cond c.becomes_ok-ok.result (OK ∷ []) []) (cond c.starts_delay-starts.result (cond a.seen.short WAIT_SHORT WAIT_LONG ∷ []) []) e a.at a.out.now c.requires

pub write_wait-end-requires : goal.write_wait-end-requires
write_wait-end-requires c =
    let a = c.args in
    let e = are_orders (state_of a.state.0) (runs a.delay.0) a.seen.open a.seen.silent a.seen.short c.becomes_ok-ok.ensures c.settled-next.ensures.0 c.starts_delay-starts.ensures in
    room_second a.pass (cond c.becomes_ok-ok.result (OK ∷ []) []) (cond c.starts_delay-starts.result (cond a.seen.short WAIT_SHORT WAIT_LONG ∷ []) []) e a.at a.out.now c.requires c.write_ok-told.ensures

pub returns : goal.returns
returns c =
    let a = c.args in
    let k = c.becomes_ok-ok.ensures in
    let t = c.settled-next.ensures.0 in
    let w = c.starts_delay-starts.ensures in
    let s = state_of a.state.0 in
    let d = runs a.delay.0 in (
      record {
        state = is_state s d a.seen.open a.seen.silent a.seen.short k t w;
        delay = is_delay s d a.seen.open a.seen.silent a.seen.short k t w c.delayed.ensures.0;
        wrote = wrote_both s d a.seen.open a.seen.silent a.seen.short k t w a.pass c.write_ok-told.ensures c.write_wait-end.ensures;
      },
      c.settled-next.ensures.1,
      c.delayed.ensures.1,
    )
