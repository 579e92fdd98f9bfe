-- At every turn the numbers that are left, marked from here on, make the whole.
use Rattle.wire_pairs.proofs.Arrays.{none_past}
use Rattle.wire_pairs.specs.View.{pair_in, pair_of}
use Rattle.row_renumber.proofs.Numbers.{added_here, added_none, left_end, left_on, numbers_none, numbers_pair}
use Rattle.rules.specs.Renumber.{numbers_of}
use borrow.Author.Rules.{rules}
use mathlib.Core.List.{[], ◌∷◌}
use Rattle.row_renumber.proofs.free.mark_pairs.Goals as goal
use Rattle.row_renumber.proofs.free.mark_pairs.Goals.{then-pair-block, else-pair-block}

pub loop-i-preserved : goal.loop-i-preserved
unfolding pair_in pair_of
loop-i-preserved c =
    let b = c.args.block in
    let a = pair_in c.at-pair.result in
    elim c.if-pair-block.branch [
      | then-pair-block w ↦ rw (w.table-is, w.from.ensures) (left_on (numbers_of b (a ∷ [])) (numbers_pair b c.at-pair.ensures) (added_here c.loop-i.table b a (search rules) w.if-pair-block.true) c.loop-i.invariant)
      | else-pair-block w ↦ rw w.table-is (left_on (numbers_of b (a ∷ [])) (numbers_pair b c.at-pair.ensures) (added_none c.loop-i.table b a w.if-pair-block.false) c.loop-i.invariant)
    ]

pub returns : goal.returns
returns c = left_end (numbers_none c.args.block (none_past _ c.len-i-end.ensures.1 c.loop-i-test.false)) c.loop-i.invariant
