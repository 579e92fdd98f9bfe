-- A bad row, one that does not rise, and one that is seated.
use mathlib.Core.Path.{sym, ◌∙◌}
use native.Mathlib.Omega.{arith}
use borrow.Author.Tests.{le-leb}
use Rattle.laws.specs.Bools.{cond_true, cond_false}
use Rattle.row_node.specs.View.{node_row_of}
use Rattle.diff_rows.specs.Gathering.{gathered, gathering_of}
use Rattle.diff_rows.proofs.Seats.{seated}
use Rattle.diff_rows.proofs.Rows.push.Goals as goal

pub returns-then-is_bad : goal.returns-then-is_bad
unfolding gathered gathering_of
returns-then-is_bad c = sym (cond_true _ _ (sym c.is_bad.ensures.0 ∙ c.if-is_bad.true))

pub returns-then-position-self : goal.returns-then-position-self
unfolding gathered gathering_of node_row_of
returns-then-position-self c =
    sym (cond_false _ _ (sym c.is_bad.ensures.0 ∙ c.if-is_bad.false) ∙ cond_true _ _ (le-leb _ _ c.if-position-self.true))

pub returns-else-position-self : goal.returns-else-position-self
returns-else-position-self c =
    let b = c.is_bad.ensures.1 c.if-is_bad.false in
    seated c.args.self.now c.args.row (sym c.is_bad.ensures.0 ∙ c.if-is_bad.false) b.2 (omega (arith, c.if-position-self.false))
