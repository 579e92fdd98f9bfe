-- What is left to mark decides.
use Rattle.wire_pairs.specs.View.{pair_in, pairs_of}
use Rattle.row_judge.proofs.Holding.{or_end, or_on, or_from}
use Rattle.rules.specs.Picture.{holds}
use mathlib.Core.Bool.{Bool, ◌||◌}
use mathlib.Core.Path.{◌∙◌, ap, refl, sym}
use native.Mathlib.Omega.{arith}
use Rattle.row_judge.proofs.held.mark_held.Goals as goal
use Rattle.row_judge.proofs.held.mark_held.Goals.{then-marks-i, else-marks-i}

pub loop-i-init : goal.loop-i-init
unfolding or_from
loop-i-init c = refl

pub loop-i-preserved : goal.loop-i-preserved
loop-i-preserved c =
    let here = holds (pairs_of c.args.kept.now) (pair_in c.at-pair.result) in
    or_on (holds (pairs_of c.args.kept.now)) c.loop-i.i _ c.loop-i.marks (pairs_of c.args.announced.now) (omega (arith, c.len-i-end.ensures.1, c.loop-i-test.true)) c.at-pair.ensures
    (elim c.if-marks-i.branch [
      | then-marks-i w ↦ w.marks-is ∙ w.if-marks-i.true ∙ sym (ap (λ (b : Bool). b || here) w.if-marks-i.true)
      | else-marks-i w ↦ w.marks-is ∙ w.holds.ensures ∙ sym (ap (λ (b : Bool). b || here) w.if-marks-i.false)
    ]) c.loop-i.invariant

pub returns : goal.returns
returns c =
    or_end (holds (pairs_of c.args.kept.now)) c.loop-i.i c.loop-i.marks (pairs_of c.args.announced.now) (omega (arith, c.len-i-end.ensures.1, c.loop-i-test.false)) c.loop-i.invariant
