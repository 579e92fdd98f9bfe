-- What is left to look at decides.
use Rattle.row_renumber.proofs.Numbers.{least_end, least_found, least_on}
use Rattle.row_renumber.specs.Marks.{is_marked}
use mathlib.Core.Path.{◌∙◌, ap, sym}
use native.Mathlib.Omega.{arith}
use Rattle.row_renumber.proofs.free.least_unmarked.Goals as goal

pub returns-then-not-table-from : goal.returns-then-not-table-from
unfolding is_marked
returns-then-not-table-from c =
    let t = c.args.table.now in
    least_found (is_marked t) c.loop-number.number (omega (arith, c.loop-number-test.true)) (ap (is_marked t) (sym c.from.ensures) ∙ c.if-not-table-from.true) c.loop-number.invariant

pub loop-number-preserved : goal.loop-number-preserved
unfolding is_marked
loop-number-preserved c =
    let t = c.args.table.now in
    least_on (is_marked t) c.loop-number.number (omega (arith, c.loop-number-test.true)) (ap (is_marked t) (sym c.from.ensures) ∙ c.if-not-table-from.false) c.loop-number.invariant

pub returns : goal.returns
returns c =
    least_end (is_marked c.args.table.now) c.loop-number.number (omega (arith, c.loop-number-test.false)) c.loop-number.invariant
