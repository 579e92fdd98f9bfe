-- At every turn the ASKs of the entries that are left, written from here on, make the whole.
use Prim.Native.Nat.{◌+◌}
use Rattle.laws.specs.Buffers.{owes_end, owes_start}
use Rattle.row_entry.proofs.Arrays.{slice_here, slice_past}
use Rattle.ring_tell.proofs.Tellings.{asks_end, asks_room, asks_turn}
use Rattle.ring_tell.specs.View.{which_of}
use mathlib.Core.Path.{◌∙◌, refl}
use native.Mathlib.Omega.{arith}
use Rattle.ring_tell.proofs.asks.write_asks.Goals as goal

pub loop-i-init : goal.loop-i-init
loop-i-init c = (refl, owes_start _ _ _)

pub write_ask_if-end-requires : goal.write_ask_if-end-requires
write_ask_if-end-requires c =
    let w = c.loop-i.invariant in
    asks_room c.args.pass (which_of c.args.which) (c.loop-i.i + 1) (slice_here c.args.entries.now c.loop-i.i _ c.loop-i-test.true) w.1 (omega (arith, c.requires.1, w.0))

pub loop-i-preserved : goal.loop-i-preserved
loop-i-preserved c =
    let w = c.loop-i.invariant in (
      c.write_ask_if-end.auto.out ∙ w.0,
      asks_turn c.args.pass (which_of c.args.which) (c.loop-i.i + 1) (slice_here c.args.entries.now c.loop-i.i _ c.loop-i-test.true) c.write_ask_if-end.ensures w.1,
    )

pub returns : goal.returns
returns c =
    owes_end (asks_end c.args.pass (which_of c.args.which) (c.loop-i.i + 1) (slice_past c.args.entries.now c.loop-i.i c.loop-i-test.false)) c.loop-i.invariant.1
