-- By the verdict on the address; then the pairs are judged, and a bad one is renumbered.
use Prim.Native.Nat.{suc, ◌≤◌}
use lib.ListN.{length}
use Rattle.rules.specs.House.{max_pairs}
use Rattle.ring_answer.proofs.Hearing.{hears, pairs_elsewhere, pairs_for, row_for, set_for, set_none, verdict_found}
use Rattle.ring_answer.specs.Beside.{held_by}
use Rattle.ring_answer.specs.Hearing.{Hears, row_after, step_after}
use Rattle.ring_entries.proofs.Seats.{seat_own}
use Rattle.ring_entries.specs.Verdicts.{verdict_of}
use Rattle.row_judge.specs.Marks.{judged_of}
use Rattle.laws.specs.Alls.{all_at}
use Rattle.row_entry.specs.View.{row_of}
use Rattle.row_entry.specs.Marks.{Marked}
use Rattle.row_renumber.specs.Marks.{renumbering_of}
use Rattle.wire_pairs.specs.View.{pairs_of}
use Rattle.rules.specs.Renumber.{finished, free_number, renumber, place_of, tries_of}
use Rattle.rules.specs.Step.{Verdict, ignored, renumbering_for}
use Rattle.rules.specs.Picture.{Pair, Row, seat_at}
use mathlib.Core.List.{List, map}
use mathlib.Core.Logic.{inl, inr}
use mathlib.Core.Path.{◌≡◌, ◌∙◌, ap, refl, subst, sym}
use native.Mathlib.Omega.{arith}
use Rattle.ring_answer.proofs.hear.hear.Goals as goal
use Rattle.ring_answer.proofs.hear.hear.Goals.{then-len, else-len}

pub returns-in-Barred : goal.returns-in-Barred
unfolding row_after step_after
returns-in-Barred c =
    let es = c.args.entries.now in
    let i = c.args.seat in
    let l = c.requires.1 in
    let w = c.survey_of-seen.ensures in
    let found = verdict_found es i l refl _ c.args.address.0 w.barred w.kept c.verdict-verdict.ensures in
    let u = c.unrenumbered.ensures in
    let v = sym (ap verdict_of c.in-Barred.is) ∙ found in (
      hears (ap verdict_of u.0 ∙ ap verdict_of c.in-Barred.is) v (ap row_of u.1 ∙ c.ignored.ensures.0 ∙ ap (ignored c.args.address.0) (seat_own i es l _)) u.2,
      λ m. subst Marked (sym u.1) c.ignored.ensures.1,
    )

pub returns-in-Outside : goal.returns-in-Outside
unfolding row_after step_after
returns-in-Outside c =
    let es = c.args.entries.now in
    let i = c.args.seat in
    let l = c.requires.1 in
    let a = c.args.address.0 in
    let ps : List Pair = pairs_of c.args.announced.now in
    let taken = seat_at (map row_of es) (suc i) in
    let w = c.survey_of-seen.ensures in
    let found = verdict_found es i l refl _ a w.barred w.kept c.verdict-verdict.ensures in
    let u = c.unrenumbered-in-Outside.ensures in
    let own = seat_own i es l _ in
    let heard : (v : Verdict) → verdict_of c.verdict-verdict.result ≡ v → row_after v taken a ps ≡ taken.row → step_after v taken ps ≡ finished
    → Hears taken a ps c.unrenumbered-in-Outside.result =
    λ v e r n. hears (ap verdict_of u.0 ∙ e) (sym e ∙ found) (ap row_of u.1 ∙ own ∙ sym r) (u.2 ∙ sym n) in (
      elim c.in-Outside.is [
        | inl e ↦ heard _ (ap verdict_of e) refl refl
        | inr f ↦ elim f [ inl e ↦ heard _ (ap verdict_of e) refl refl | inr e ↦ heard _ (ap verdict_of e) refl refl ]
      ],
      λ m. subst Marked (sym u.1) (all_at i _ l m),
    )

pub returns-after-len : goal.returns-after-len
unfolding row_after step_after row_of
returns-after-len c =
    let es = c.args.entries.now in
    let i = c.args.seat in
    let l = c.requires.1 in
    let w = c.survey_of-seen.ensures in
    let ps : List Pair = pairs_of c.args.announced.now in
    let taken = seat_at (map row_of es) (suc i) in
    let found = verdict_found es i l refl _ c.args.address.0 w.barred w.kept c.verdict-verdict.ensures in
    let v = sym (ap verdict_of c.in-Fine.is) ∙ found in
    let own = seat_own i es l _ in
    let elsewhere = pairs_elsewhere es i l refl in
    let held = w.held ∙ ap (λ (el : List Pair). held_by el ps) elsewhere in
    let few : length ps ≤ max_pairs = omega (arith, c.len-in-Fine.ensures) in
    let good = c.judge-good.result in
    let kept = pairs_for taken ps few good c.survey_of-seen.result.held held c.judge-good.ensures c.good_pairs-kept.ensures in
    let step : renumbering_of c.if-len.step ≡ renumbering_for taken ps = elim c.if-len.branch [
      | then-len w ↦
          ap renumbering_of w.step-is
          ∙ set_none taken ps few good c.survey_of-seen.result.held held c.judge-good.ensures c.good_pairs-kept.ensures
          (omega (arith, c.len.ensures.1, c.len-in-Fine.ensures.1, w.if-len.true))
      | else-len w ↦
          ap renumbering_of w.step-is
          ∙ set_for taken ps few good c.survey_of-seen.result.held held c.judge-good.ensures
          (w.renumber_from-step.ensures
          ∙ (λ t.
          renumber (free_number (pairs_elsewhere es i l w.beside-ring.ensures t) ps) ((w.place.ensures ∙ ap (λ (r : Row). place_of r.status) own) t)
          ((w.tries.ensures ∙ ap (λ (r : Row). tries_of r.status) own) t) (judged_of ps good)))
    ] in
    (hears (ap verdict_of c.in-Fine.is) v (row_for taken ps c.args.address.0 own kept step c.registered.ensures.0) step, λ m. c.registered.ensures.1)
