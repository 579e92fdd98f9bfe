-- A search: what is left to look at decides.
use mathlib.Core.Path.{sym, ◌∙◌}
use native.Mathlib.Omega.{arith}
use lib.ListN.{drop_of_length-le}
use Rattle.wire_pairs.specs.View.{pairs_of}
use Rattle.diff_rows.proofs.Repeats.{twice_here, twice_skip, twice_end}
use Rattle.diff_rows.proofs.twice.Goals as goal

pub returns-then-holds_from : goal.returns-then-holds_from
returns-then-holds_from c =
    sym (sym c.loop-i.invariant ∙ twice_here c.at.ensures (sym c.holds_from.ensures ∙ c.if-holds_from.true))

pub loop-i-preserved : goal.loop-i-preserved
loop-i-preserved c =
    twice_skip c.at.ensures (sym c.holds_from.ensures ∙ c.if-holds_from.false) ∙ c.loop-i.invariant

pub returns : goal.returns
returns c =
    sym (sym c.loop-i.invariant ∙ twice_end (drop_of_length-le (pairs_of c.args.pairs.now) (omega (arith, c.len-i-end.ensures.1, c.loop-i-test.false))))
