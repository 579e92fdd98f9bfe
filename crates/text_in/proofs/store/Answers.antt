-- A byte without room changes nothing.
use mathlib.Core.Path.{sym}
use native.Mathlib.Omega.{arith}
use borrow.Author.Tests.{lt-ltb, le-ltb}
use Rattle.laws.specs.Bools.{cond_true, cond_false}
use Rattle.text_in.specs.Lines.{kept_at}
use Rattle.text_in.proofs.store.Goals as goal

pub returns-then-seen-ge-MAX_LINE : goal.returns-then-seen-ge-MAX_LINE
unfolding kept_at
returns-then-seen-ge-MAX_LINE c = (omega arith, sym (cond_false _ _ (le-ltb _ _ c.if-seen-ge-MAX_LINE.true)))

pub returns : goal.returns
unfolding kept_at
returns c = (omega arith, sym (cond_true _ _ (lt-ltb _ _ c.if-seen-ge-MAX_LINE.false)))
