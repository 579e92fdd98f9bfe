-- `part_id` goes by the bytes that are left.
use borrow.Author.Tests.{eq-eqb, ne_eqb, lt-leb, le-leb}
use Rattle.tel_cut.specs.Parts.{part_id}
use Rattle.tel_cut.proofs.part_id.Goals as goal

pub returns-then-before-eq0 : goal.returns-then-before-eq0
unfolding part_id
returns-then-before-eq0 c = simp (eq-eqb _ _ c.if-before-eq0.true)

pub returns-then-left-most : goal.returns-then-left-most
unfolding part_id
returns-then-left-most c = simp (ne_eqb _ _ c.if-before-eq0.false, le-leb _ _ c.if-left-most.true)

pub returns-else-left-most : goal.returns-else-left-most
unfolding part_id
returns-else-left-most c = simp (ne_eqb _ _ c.if-before-eq0.false, lt-leb _ _ c.if-left-most.false)
