-- A refusal keeps nothing, and what is found is what the method learns.
use mathlib.Core.Path.{refl}
use Rattle.rules.specs.Listing.{found, not_found}
use Rattle.wire_pairs.specs.View.{pair_in}
use Rattle.unit_slave.specs.Steps.{is_refusal}
use Rattle.lathepetal.proofs.Learning.{learn_refused, learn_found}
use Rattle.lathepetal.proofs.unit.lathepetal_unit_learn.Goals.{then-answer-eq-DONE, else-answer-eq-DONE}
use Rattle.lathepetal.proofs.unit.lathepetal_unit_learn.Goals as goal

pub returns : goal.returns
unfolding pair_in is_refusal
returns c =
    let o = c.args.answer in
    let l = c.learn.ensures in
    elim c.if-answer-eq-DONE.branch [
      | then-answer-eq-DONE w ↦ (
        learn_found _ _ _ w.if-answer-eq-DONE.true (l.learned (found o.position o.address) (rw w.looked_up-is refl)),
        l.counts,
        λ h. absurd (h w.if-answer-eq-DONE.true),
      )
      | else-answer-eq-DONE w ↦ (
        learn_refused _ _ _ w.if-answer-eq-DONE.false (l.learned (not_found o.number) (rw w.looked_up-is refl)),
        l.counts,
        λ h. l.refused (not_found o.number) (rw w.looked_up-is refl) refl,
      )
    ]
