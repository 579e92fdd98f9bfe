-- The bytes used so far are the line's, and what is held goes on behind them.
use mathlib.Core.Path.{refl, sym, ◌∙◌}
use mathlib.Core.Bool.{true, false}
use native.Mathlib.Omega.{arith}
use Rattle.text_in.proofs.Reading.{reading_start, reading_filled, reading_end, reading_lf, reading_on, reading_limit}
use Rattle.text_in.proofs.Input.line.Goals as goal
use Rattle.text_in.proofs.Input.line.Goals.{then-not-is_dropped, else-not-is_dropped}

pub loop-init : goal.loop-init
loop-init c = reading_start _ _

pub returns-then-min-self : goal.returns-then-min-self
returns-then-min-self c =
    let r = reading_filled c.fill.ensures c.loop.invariant in
    reading_end r (omega arith) c.then_some.ensures

pub returns-then-byte-eq10 : goal.returns-then-byte-eq10
returns-then-byte-eq10 c =
    let r = reading_filled c.fill.ensures c.loop.invariant in
    reading_lf r (omega arith) c.if-byte-eq10.true

pub loop-preserved : goal.loop-preserved
loop-preserved c =
    let stored = c.store-seen.ensures in
    let r = reading_filled c.fill.ensures c.loop.invariant in
    elim c.if-not-is_dropped.branch [
      | then-not-is_dropped w ↦
          reading_on r (omega arith) false refl c.if-byte-eq10.false (sym c.is_dropped.ensures ∙ w.if-not-is_dropped.true) stored.0 stored.1 w.length-is
      | else-not-is_dropped w ↦
          reading_on r (omega arith) true refl c.if-byte-eq10.false (sym c.is_dropped.ensures ∙ w.if-not-is_dropped.false) stored.0 stored.1 w.length-is
    ]

pub returns : goal.returns
returns c = reading_limit c.loop.invariant c.loop-test.false (omega arith)
