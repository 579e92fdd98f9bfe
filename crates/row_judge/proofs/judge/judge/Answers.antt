-- At every turn what is judged so far, and the judging of the rest, are the whole.
use Rattle.wire_pairs.specs.View.{pairs_of}
use Rattle.row_judge.proofs.Judging.{judge_end, judge_on}
use borrow.Author.Rules.{rules}
use native.Mathlib.Omega.{arith}
use Rattle.row_judge.proofs.judge.judge.Goals as goal

pub loop-i-preserved : goal.loop-i-preserved
loop-i-preserved c =
    record {
      full = search rules;
      judged = judge_on c.args.held.now (pairs_of c.args.announced.now) c.loop-i.i _ c.loop-i.good (omega (arith, c.len-i-end.ensures.1, c.loop-i-test.true)) c.at.ensures
          (search rules) (search rules) c.is_good.ensures c.loop-i.invariant.judged;
    }

pub returns : goal.returns
returns c =
    judge_end c.args.held.now (pairs_of c.args.announced.now) c.loop-i.i c.loop-i.good (omega (arith, c.len-i-end.ensures.1, c.loop-i-test.false)) c.loop-i.invariant.judged
