-- The line is too long to be written back, or the reason stands.
use mathlib.Core.Path.{sym}
use borrow.Author.Tests.{lt-ltb, le-ltb}
use Rattle.laws.specs.Bools.{cond_true, cond_false}
use Rattle.text_answers.specs.Remarks.{told_of}
use Rattle.text_answers.proofs.told.Goals as goal

pub returns-then-line : goal.returns-then-line
unfolding told_of
returns-then-line c = sym (cond_true _ _ (lt-ltb _ _ c.if-line.true))

pub returns-else-line : goal.returns-else-line
unfolding told_of
returns-else-line c = sym (cond_false _ _ (le-ltb _ _ c.if-line.false))
