-- What is left from the place on decides.
use Rattle.wire_pairs.specs.View.{pairs_of}
use Rattle.row_judge.proofs.Judging.{judged_at, judged_end}
use Rattle.row_renumber.proofs.Offers.{turn_offered, turn_passed}
use Rattle.row_renumber.specs.Marks.{free_for}
use Rattle.rules.specs.Renumber.{renumber, renumber_from}
use borrow.Author.Rules.{rules}
use mathlib.Core.Path.{◌∙◌, ap, refl, sym}
use native.Mathlib.Omega.{arith}
use Rattle.row_renumber.proofs.renumber.renumber_from.Goals as goal

pub loop-i-init : goal.loop-i-init
unfolding renumber
loop-i-init c = record { left = rw c.from-i.ensures refl; full = search rules }

pub returns-then-is_some : goal.returns-then-is_some
returns-then-is_some c =
    let ps = pairs_of c.args.announced.now in
    let here = judged_at c.loop-i.i ps c.args.good.now (omega (arith, c.len-i-end.ensures.1, c.loop-i-test.true)) c.at.ensures (search rules) refl in
    turn_offered (free_for c.args.entries.now c.args.announced.now) c.loop-i.i c.loop-i.left c.attempt-offer.result here c.attempt-offer.ensures.0 c.loop-i.invariant.left (sym c.is_some.ensures ∙ c.if-is_some.true)

pub loop-i-preserved : goal.loop-i-preserved
loop-i-preserved c =
    let ps = pairs_of c.args.announced.now in
    let here = judged_at c.loop-i.i ps c.args.good.now (omega (arith, c.len-i-end.ensures.1, c.loop-i-test.true)) c.at.ensures (search rules) refl in
    record {
      left = turn_passed (free_for c.args.entries.now c.args.announced.now) c.loop-i.i c.loop-i.left c.attempt-offer.result here c.attempt-offer.ensures.0 c.loop-i.invariant.left (sym c.is_some.ensures ∙ c.if-is_some.false);
      full = c.attempt-offer.ensures.1;
    }

pub returns : goal.returns
unfolding renumber_from
returns c =
    let free = free_for c.args.entries.now c.args.announced.now in
    ap (renumber_from free c.loop-i.i c.loop-i.left) (sym (judged_end c.loop-i.i (pairs_of c.args.announced.now) c.args.good.now (omega (arith, c.len-i-end.ensures.1, c.loop-i-test.false)))) ∙ c.loop-i.invariant.left
