-- The place passed over so far, and the blanks from there on, make the place asked for.
use mathlib.Core.Path.{sym}
use Rattle.laws.specs.Runs.{run_stops, run_on, leading_end}
use lib.ListN.{drop_of_length-le}
use Rattle.text_words.specs.Text.{is_blank}
use native.Mathlib.Omega.{arith}
use Rattle.text_words.proofs.words.word_start.Goals as goal

pub returns-then-not-is_blank : goal.returns-then-not-is_blank
returns-then-not-is_blank c =
    (run_stops is_blank c.args.line.now c.loop-at.at 0 c.loop-at-test.true (sym c.if-not-is_blank.ensures) c.loop-at.invariant.1, omega arith)

pub loop-at-preserved : goal.loop-at-preserved
loop-at-preserved c = (
  omega arith,
  run_on is_blank c.args.line.now c.loop-at.at 0 c.loop-at-test.true (sym c.if-not-is_blank.ensures) c.loop-at.invariant.1,
)

pub returns : goal.returns
returns c =
    let end = leading_end is_blank (drop_of_length-le c.args.line.now {i = c.loop-at.at} (omega arith)) in
    let m = c.max.ensures in
    (omega (arith, end), omega arith)
