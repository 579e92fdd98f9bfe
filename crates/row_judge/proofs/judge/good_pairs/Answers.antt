-- At every turn the pairs found so far and the good ones of the rest are all good ones.
use Rattle.wire_pairs.specs.View.{pairs_of}
use Rattle.row_judge.proofs.Judging.{goods_end, goods_on, judged_at, judged_end}
use borrow.Author.Rules.{rules}
use lib.ListN.{length}
use Prim.Native.Nat.{◌<◌}
use mathlib.Core.List.{append-nil}
use mathlib.Core.Path.{sym}
use native.Mathlib.Omega.{arith}
use Rattle.row_judge.proofs.judge.good_pairs.Goals as goal
use Rattle.row_judge.proofs.judge.good_pairs.Goals.{then-good-i, else-good-i}

pub loop-i-preserved : goal.loop-i-preserved
loop-i-preserved c =
    let ps = pairs_of c.args.announced.now in
    let l : c.loop-i.i < length ps = omega (arith, c.len-i-end.ensures.1, c.loop-i-test.true) in
    elim c.if-good-i.branch [
      | then-good-i w ↦ rw w.kept-is (record {
        few = omega arith;
        found = goods_on (pairs_of c.loop-i.kept) _ (judged_at _ ps _ l c.at-pair.ensures (search rules) w.if-good-i.true) w.push.ensures.0 c.loop-i.invariant.found;
      })
      | else-good-i w ↦ rw w.kept-is (record {
        few = omega arith;
        found = goods_on (pairs_of c.loop-i.kept) _ (judged_at _ ps _ l c.at-pair.ensures (search rules) w.if-good-i.false) (sym (append-nil _)) c.loop-i.invariant.found;
      })
    ]

pub returns : goal.returns
returns c =
    goods_end (pairs_of c.loop-i.kept) (judged_end c.loop-i.i (pairs_of c.args.announced.now) c.args.good.now (omega (arith, c.len-i-end.ensures.1, c.loop-i-test.false))) c.loop-i.invariant.found
