-- A line's kind by its first byte, and the parts of what is said.
use Prim.Native.Nat.{ℕ, ◌≤◌, ◌<◌}
use mathlib.Core.Path.{◌≡◌, refl, sym, ◌∙◌, ap}
use mathlib.Core.Bool.{Bool, true, false, cond, ◌&&◌, ◌||◌}
use mathlib.Core.Logic.{◌⊎◌, inl, inr}
use Rattle.std.specs.Bool.{◌==◌}
use Rattle.std.proofs.lemmas.List.{take_all, take-take, length-take}
use mathlib.Core.List.{List, [], ◌∷◌, ◌++◌}
use native.Mathlib.Omega.{arith}
use borrow.Author.Tests.{eq-eqb, ne_eqb, lt-ltb, le-ltb}
use Rattle.std.proofs.lemmas.Bool.{eqb-true}
use Rattle.text_words.specs.Text.{trimmed_length}
use lib.Dec.{eqb, ltb}
use lib.ListN.{length, take}
use Rattle.laws.specs.Bools.{clash, and_none, and_true, cond_true, cond_false, or_false, or_true_left, or_true_right}
use Rattle.text_arguments.specs.declared.Reason.{Reason}
use Rattle.text_out.specs.Spelling.{lined, decimal_of, value_of, filled_from, filled}
use Rattle.text_out.specs.Texts.{codes}
use Rattle.text_numbers.specs.declared.Asked.{Asked}
use Rattle.text_numbers.specs.Wording.{words_of, why_of}
use Rattle.text_answers.specs.Remarks.{kind_of, told_of, is_too_long, shown_of, spaced_of, comment_of, not_understood, refusal_of}
use Rattle.text_answers.specs.declared.LineKind.TheVariants.{Remark, EarlierAnswer, Offer}

-- a line without a byte, and one with a first byte: a remark, an earlier answer, an offer
pub kind_empty : (other : ℕ) (xs : List ℕ) → length xs ≡ 0 → Remark ≡ kind_of other xs
unfolding kind_of
kind_empty other [] h = refl
kind_empty other (x ∷ xs) h = absurd (omega (arith, h))

module _ (other : ℕ) {x : ℕ} {xs rest : List ℕ} (e : xs ≡ x ∷ rest) where
  pub kind_remark : x ≡ 35 → Remark ≡ kind_of other xs
  unfolding kind_of
  kind_remark h = sym (ap (kind_of other) e ∙ cond_true _ _ (eq-eqb x 35 h))

  module _ (n : x ≡ 35 → ⊥) where
    kind_else : {b : Bool} → (eqb x 61 || (eqb x other || eqb x 33)) ≡ b → cond b EarlierAnswer Offer ≡ kind_of other xs
    unfolding kind_of
    kind_else h = sym (ap (kind_of other) e ∙ cond_false _ _ (ne_eqb x 35 n) ∙ ap (λ (b : Bool). cond b EarlierAnswer Offer) h)

    pub kind_answered : (x ≡ 33) ⊎ (x ≡ 61) → EarlierAnswer ≡ kind_of other xs
    kind_answered (inl h) = kind_else (or_true_right (eqb x 61) _ (or_true_right (eqb x other) _ (eq-eqb x 33 h)))
    kind_answered (inr h) = kind_else (or_true_left (eqb x 61) _ (eq-eqb x 61 h))

    pub kind_other : x ≡ other → EarlierAnswer ≡ kind_of other xs
    kind_other h = kind_else (or_true_right (eqb x 61) _ (or_true_left (eqb x other) _ (eq-eqb x other h)))

    pub kind_offer : ((x ≡ 33) ⊎ (x ≡ 61) → ⊥) → (x ≡ other → ⊥) → Offer ≡ kind_of other xs
    kind_offer a b = kind_else (or_false _ _ (ne_eqb x 61 (λ h. a (inr h))) (or_false _ _ (ne_eqb x other b) (ne_eqb x 33 (λ h. a (inl h)))))

-- a blank before bytes
pub spaced_none : (xs : List ℕ) {b : Bool} → b ≡ (length xs == 0) → b ≡ true → 10 ∷ [] ≡ lined (spaced_of xs)
unfolding spaced_of
spaced_none [] e h = refl
spaced_none (x ∷ xs) e h = absurd (omega (arith, eqb-true (length (x ∷ xs)) 0 (sym e ∙ h)))

pub spaced_some : (xs : List ℕ) {b : Bool} → b ≡ (length xs == 0) → b ≡ false → (32 ∷ []) ++ lined xs ≡ lined (spaced_of xs)
unfolding spaced_of
spaced_some [] e h = clash e h
spaced_some (x ∷ xs) e h = refl

-- a line is written back whole, or the start of a too long one
pub shown_whole : (line : List ℕ) (reason : Reason) {b : Bool} → b ≡ is_too_long reason → (b ≡ false) ⊎ ((b ≡ true) × (length line ≤ 64))
    → line ≡ take (shown_of line reason) line
unfolding shown_of
shown_whole line reason {b} e h = sym (take_all _ line (omega (arith, cond_false (trimmed_length (take 64 line)) (length line) (go h))))
  where
    go : (b ≡ false) ⊎ ((b ≡ true) × (length line ≤ 64)) → (is_too_long reason && ltb 64 (length line)) ≡ false
    go (inl k) = ap (λ (t : Bool). t && ltb 64 (length line)) (sym e ∙ k)
    go (inr k) = ap (λ (t : Bool). is_too_long reason && t) (le-ltb 64 (length line) k.1) ∙ and_none _

pub shown_start : (line : List ℕ) (reason : Reason) {b : Bool} {n : ℕ} → b ≡ is_too_long reason → b ≡ true → 64 < length line
    → n ≡ trimmed_length (take 64 line) → n ≤ length (take 64 line) → take n (take 64 line) ≡ take (shown_of line reason) line
unfolding shown_of
shown_start line reason {n = n} e h l t m =
    take-take n 64 line (omega (arith, m, length-take 64 line))
    ∙ ap (λ (k : ℕ). take k line) (t ∙ sym (cond_true _ _ (and_true _ _ (sym e ∙ h) (lt-ltb 64 (length line) l))))

-- the parts of a comment
pub comment_is : (line : List ℕ) (reason : Reason) {told : Reason} {shown : List ℕ} → told ≡ told_of line reason → shown ≡ take (shown_of line told) line
    → (35 ∷ []) ++ lined (spaced_of shown) ++ codes "# not understood: " ++ lined (why_of told) ≡ not_understood line reason
unfolding comment_of
comment_is line reason {told} {shown} e f =
    ap (λ (l : List ℕ). (35 ∷ []) ++ lined (spaced_of l) ++ codes "# not understood: " ++ lined (why_of told)) f ∙ ap (comment_of line) e

-- the parts of a refusal
pub refusal_is : (asked : Asked) {n m : ℕ} → m ≡ n → filled (codes "! %d  ") (m ∷ []) ++ lined (words_of asked n) ≡ refusal_of asked n
unfolding refusal_of filled_from value_of
refusal_is asked {n} {m} e = ap (λ (k : ℕ). codes "! " ++ decimal_of k ++ codes "  " ++ lined (words_of asked n)) e
