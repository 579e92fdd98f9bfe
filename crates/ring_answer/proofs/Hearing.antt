-- What an announcement comes to, from the tests of the code.
use Prim.Native.Nat.{ℕ, zero, suc, ◌<◌, ◌≤◌}
use mathlib.Core.Path.{◌≡◌, refl, sym, ◌∙◌, ap}
use mathlib.Core.Bool.{Bool, true, false, cond, ◌&&◌}
use mathlib.Core.List.{List, [], ◌∷◌, map}
use mathlib.Core.Option.{Option}
use native.Mathlib.Nat.{suc-ne-zero}
use native.Mathlib.Omega.{arith}
use borrow.Author.Tests.{eqb-true}
use lib.Dec.{eqb, ltb}
use lib.ListN.{length, get_or, drop}
use Rattle.laws.specs.Lists.{any, collect}
use Rattle.laws.specs.Bools.{clash}
use Rattle.rules.specs.House.{max_tries, max_pairs}
use Rattle.rules.specs.Picture.{Picture, Pair, Row, no_row, kept_by, has_address, keeps, keeps_other, bars, bars_status, in_range, pairs_in, Seat, seat_at, others}
use Rattle.rules.specs.Picture as rules
use Rattle.rules.specs.Renumber.{Judged, goods, free_number, Renumbering, finished, offer, renumber_from, renumber, place_of, tries_of}
use Rattle.rules.specs.Step.{change, change_rows, set_order, Verdict, barred, outside, duplicate, changed, fine, first_that_applies, verdict, answer, conflict, judged_for, renumbering_for, listed_row, status_after, keep_answer}
use Rattle.row_entry.specs.declared.NodeEntry.{NodeEntry}
use Rattle.row_entry.specs.View.{row_of}
use Rattle.std.proofs.lemmas.List.{length-map}
use Rattle.ring_entries.specs.Verdicts.{verdict_of, is_conflict, counts_for}
use Rattle.row_judge.specs.Marks.{judge_marked, judged_of}
use Rattle.row_judge.proofs.Judging.{judge_marked_lem, judged_few}
use Rattle.row_renumber.specs.Marks.{renumbering_of}
use Rattle.ring_answer.specs.declared.hear.Heard.{Heard}
use Rattle.ring_answer.specs.Beside.{beside, held_by}
use Rattle.ring_answer.specs.Hearing.{reply_change, renumbering_by, verdict_for, answered, row_after, step_after, Hears}
use Rattle.ring_entries.proofs.Seats.{seat_any, seat_own, seat_pairs}

-- what stands for no position bars nothing
none_bars : (a : ℕ) → bars a no_row ≡ false
unfolding bars bars_status no_row in_range
none_bars a = go (eqb a 0) refl
  where
    go : (b : Bool) → eqb a 0 ≡ b → (b && in_range a) ≡ false
    go true e = ap in_range (eqb-true a 0 e)
    go false e = refl

-- an announcement heard is the rules' answer at any position and in any picture: a conflict where it is one, else a reply
answer_conflicts : (v : Verdict) (s : Seat) (x a : ℕ) (ps : List Pair) (p : Picture) → is_conflict v ≡ true → answer v x a ps s p ≡ conflict (counts_for v a) a s p
unfolding is_conflict answer counts_for
answer_conflicts barred s x a ps p e = clash e refl
answer_conflicts outside s x a ps p e = refl
answer_conflicts duplicate s x a ps p e = refl
answer_conflicts changed s x a ps p e = refl
answer_conflicts fine s x a ps p e = clash e refl

answer_replies : (v : Verdict) (s : Seat) (x a : ℕ) (ps : List Pair) (p : Picture) → is_conflict v ≡ false
    → answer v x a ps s p ≡ change (reply_change s x a (row_after v s a ps) (step_after v s ps) p)
unfolding is_conflict answer change_rows keep_answer set_order row_after step_after
answer_replies barred s x a ps p e = refl
answer_replies outside s x a ps p e = clash refl e
answer_replies duplicate s x a ps p e = clash refl e
answer_replies changed s x a ps p e = clash refl e
answer_replies fine s x a ps p e = refl

module _ {s : Seat} {a : ℕ} {ps : List Pair} {h : Heard} (k : Hears s a ps h) (x : ℕ) (p : Picture) where
  pub hears_conflict : is_conflict (verdict_of h.verdict) ≡ true → answered s x a ps p ≡ conflict (counts_for (verdict_of h.verdict) a) a s p
  hears_conflict e =
      answer_conflicts (verdict_for s a) s x a ps p (ap is_conflict (sym k.verdict) ∙ e)
      ∙ ap (λ (v : Verdict). conflict (counts_for v a) a s p) (sym k.verdict)

  pub hears_reply : is_conflict (verdict_of h.verdict) ≡ false → answered s x a ps p ≡ change (reply_change s x a (row_of h.next) (renumbering_of h.step) p)
  hears_reply e =
      answer_replies (verdict_for s a) s x a ps p (ap is_conflict (sym k.verdict) ∙ e)
      ∙ (λ t. change (reply_change s x a (sym k.row t) (sym k.step t) p))

-- the verdict from the claims of the others
verdict_at : (rs : List Row) (i : ℕ) → i < length rs → (a : ℕ) {bar keep : Bool} → bar ≡ any (bars a) (beside i rs) → keep ≡ any (keeps a) (beside i rs)
    → {own : Row} → own ≡ (seat_at rs (suc i)).row → {v : Verdict} → v ≡ first_that_applies bar (in_range a) keep (keeps_other a own) → v ≡ verdict_for (seat_at rs (suc i)) a
unfolding verdict keeps has_address kept_by no_row
verdict_at rs i l a b k o e =
    let bar = b ∙ sym (seat_any rs i refl l (bars a) no_row (none_bars a)) in
    let keep = k ∙ sym (seat_any rs i refl l (keeps a) no_row refl) in
    e ∙ (λ t. first_that_applies (bar t) (in_range a) (keep t) (keeps_other a (o t)))

-- the entries beside one: the pairs that they keep are those of the others, and what they say of an address decides
module _ (es : List NodeEntry) (i : ℕ) (l : i < length es) {rs : List Row} (e : rs ≡ beside i (map row_of es)) where
  pub pairs_elsewhere : collect pairs_in rs ≡ collect pairs_in (others (seat_at (map row_of es) (suc i)))
  unfolding pairs_in no_row rules.pairs_of kept_by
  pairs_elsewhere = ap (collect pairs_in) e ∙ sym (seat_pairs (map row_of es) i refl (omega (arith, l, length-map es row_of)) no_row refl)

  pub verdict_found : (d : NodeEntry) (a : ℕ) {bar keep : Bool} → bar ≡ any (bars a) rs → keep ≡ any (keeps a) rs → {v : Verdict}
      → v ≡ first_that_applies bar (in_range a) keep (keeps_other a (row_of (get_or es i d))) → v ≡ verdict_for (seat_at (map row_of es) (suc i)) a
  verdict_found d a b k =
      verdict_at (map row_of es) i (omega (arith, l, length-map es row_of)) a (b ∙ ap (any (bars a)) e) (k ∙ ap (any (keeps a)) e) (seat_own i es l d)

-- what is heard, from the verdict
pub hears : {s : Seat} {a : ℕ} {ps : List Pair} {h : Heard} {v : Verdict} → verdict_of h.verdict ≡ v → v ≡ verdict_for s a
    → row_of h.next ≡ row_after v s a ps → renumbering_of h.step ≡ step_after v s ps → Hears s a ps h
hears {s} {a} {ps} e f r n =
    record {
      verdict = e ∙ f;
      row = r ∙ ap (λ (w : Verdict). row_after w s a ps) f;
      step = n ∙ ap (λ (w : Verdict). step_after w s ps) f;
    }

-- where all pairs are good nothing is renumbered
good_few : (js : List Judged) → length (goods js) ≤ length js
unfolding goods
good_few [] = omega arith
good_few (j ∷ js) = go j.good (good_few js)
  where
    go : (b : Bool) → length (goods js) ≤ length js → length (cond b (j.pair ∷ goods js) (goods js)) ≤ suc (length js)
    go true h = omega (arith, h)
    go false h = omega (arith, h)

-- all of (j ∷ js) are good: so is j, and so are all of js
good_head : (j : Judged) (js : List Judged) → length (goods (j ∷ js)) ≡ suc (length js) → (j.good ≡ true) × (length (goods js) ≡ length js)
unfolding goods
good_head j js e = go j.good refl e
  where
    go : (b : Bool) → j.good ≡ b → length (cond b (j.pair ∷ goods js) (goods js)) ≡ suc (length js) → (j.good ≡ true) × (length (goods js) ≡ length js)
    go true h k = (h, omega (arith, k))
    go false h k = let m = good_few js in let z : ◌≡◌ {A = ℕ} 0 1 = omega (arith, m, k) in absurd (suc-ne-zero 0 (sym z))

good_drop : (k : ℕ) (js : List Judged) → length (goods js) ≡ length js → length (goods (drop k js)) ≡ length (drop k js)
good_drop zero js e = e
good_drop (suc k) [] e = e
good_drop (suc k) (j ∷ js) e = good_drop k js (good_head j js e).1

module _ (free : ℕ → Option ℕ) where
  none_from : (place tries : ℕ) (js : List Judged) → length (goods js) ≡ length js → renumber_from free place tries js ≡ finished
  unfolding renumber_from
  none_from place tries [] e = refl
  none_from place tries (j ∷ js) e =
      let g = good_head j js e in
      ap (λ (b : Bool). cond b (renumber_from free (suc place) 0 js) (cond (ltb tries max_tries) (offer place tries j.pair (free j.pair.block) (renumber_from free (suc place) 0 js)) (renumber_from free (suc place) 0 js))) g.0
      ∙ none_from (suc place) 0 js g.1

  none_renumbered : (place tries : ℕ) (js : List Judged) → length (goods js) ≡ length js → renumber free place tries js ≡ finished
  unfolding renumber
  none_renumbered place tries js e = none_from place tries (drop place js) (good_drop place js e)

-- an address that is kept
module _ (s : Seat) (ps : List Pair) (few : length ps ≤ max_pairs) (good held : List Bool) (hd : held ≡ held_by (collect pairs_in (others s)) ps)
    (jd : judged_of ps good ≡ judge_marked held [] ps) where
  all_judged : judged_of ps good ≡ judged_for s ps
  unfolding judged_for
  all_judged = jd ∙ ap (λ (m : List Bool). judge_marked m [] ps) hd ∙ judge_marked_lem max_pairs (collect pairs_in (others s)) [] ps few

  pub set_for : {n : Renumbering} → n ≡ renumbering_by s ps (judged_of ps good) → n ≡ renumbering_for s ps
  unfolding renumbering_for
  set_for f = f ∙ ap (renumbering_by s ps) all_judged

  pub set_none : {kept : List Pair} → kept ≡ goods (judged_of ps good) → length kept ≡ length ps → finished ≡ renumbering_for s ps
  set_none k e =
      set_for
      (sym (none_renumbered (free_number (collect pairs_in (others s)) ps) (place_of s.row.status) (tries_of s.row.status) (judged_of ps good)
      (omega (arith, e, ap length k, good_few (judged_of ps good), judged_few ps good))))

  pub pairs_for : {kept : List Pair} → kept ≡ goods (judged_of ps good) → kept ≡ goods (judged_for s ps)
  pairs_for k = k ∙ ap goods all_judged

pub row_for : (s : Seat) (ps : List Pair) (a : ℕ) {kept : List Pair} {n : Renumbering} {own r : Row} → own ≡ s.row → kept ≡ goods (judged_for s ps) → n ≡ renumbering_for s ps
    → r ≡ record { status = status_after a kept n; bad = own.bad; silences = 0 } → r ≡ listed_row s a ps
unfolding listed_row
row_for s ps a o k n f = f ∙ (λ t. record { status = status_after a (k t) (n t); bad = (o t).bad; silences = 0 })
