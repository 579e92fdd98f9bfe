-- By the status's number.
use Rattle.laws.specs.Bools.{cond_same}
use Rattle.row_entry.proofs.Marks.{by_mark}
use Rattle.row_entry.specs.View.{row_of}
use Rattle.rules.specs.Renumber.{place_of}
use borrow.Author.Tests.{ne_eqb}
use Rattle.row_entry.proofs.NodeEntry.place.Goals as goal

pub returns-then-self-eq-SETTING : goal.returns-then-self-eq-SETTING
unfolding row_of place_of
returns-then-self-eq-SETTING c = simp (by_mark place_of, c.if-self-eq-SETTING.true)

pub returns-else-self-eq-SETTING : goal.returns-else-self-eq-SETTING
unfolding row_of place_of
returns-else-self-eq-SETTING c = simp (by_mark place_of, ne_eqb _ _ c.if-self-eq-SETTING.false, cond_same)
