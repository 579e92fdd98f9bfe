-- What is left of the line, without the dropped bytes at its end, is the length asked for.
use mathlib.Core.Path.{sym}
use lib.Seq.{take-length}
use Rattle.laws.specs.Runs.{back_stops, back_on}
use Rattle.text_words.specs.Text.{is_dropped, trimmed_length}
use native.Mathlib.Omega.{arith}
use Rattle.text_words.proofs.words.trimmed.Goals as goal

pub loop-n-init : goal.loop-n-init
unfolding trimmed_length
loop-n-init c = rw (take-length c.args.line.now)

pub returns-then-not-is_dropped : goal.returns-then-not-is_dropped
returns-then-not-is_dropped c =
    let stop = back_stops is_dropped c.args.line.now c.loop-n.n 0 (omega arith) (omega arith) (sym c.if-not-is_dropped.ensures) c.loop-n.invariant in
    (omega (arith, stop), omega arith)

pub loop-n-preserved : goal.loop-n-preserved
loop-n-preserved c = back_on is_dropped c.args.line.now c.loop-n.n 0 (omega arith) (omega arith) (sym c.if-not-is_dropped.ensures) c.loop-n.invariant
