-- A walk over the entries beside one: what was found so far, the row at hand and those behind it, and the end.
use Prim.Native.Nat.{ℕ, zero, suc, ◌+◌, ◌<◌, ◌≤◌}
use mathlib.Core.Path.{◌≡◌, refl, sym, ◌∙◌, ap}
use mathlib.Core.Bool.{Bool, true, false, cond, ◌||◌}
use mathlib.Core.List.{List, [], ◌∷◌, ◌++◌, map}
use native.Mathlib.Nat.{not-suc-le-zero, le_of_suc-le-suc}
use native.Mathlib.Numerals.{add-one}
use native.Mathlib.Omega.{arith}
use borrow.Author.Tests.{eqb-true, eqb-false}
use lib.Dec.{eqb}
use lib.ListN.{length, get_or, set, take, drop, length-set, drop_of_length-le}
use lib.Seq.{drop-cons}
use Rattle.std.proofs.Common.{take_all}
use Rattle.std.proofs.Math.Seq.{take-set-lt}
use Rattle.std.proofs.lemmas.List.{map-set, take-append-le, get_or-map, length-map}
use Rattle.laws.specs.Lists.{any}
use Rattle.laws.specs.Views.{any_on}
use Rattle.rules.specs.Picture.{Row, no_row}
use Rattle.row_entry.specs.declared.NodeEntry.{NodeEntry}
use Rattle.row_entry.specs.View.{row_of}
use Rattle.ring_answer.specs.Beside.{beside}

pub seen_next : (f : Row → Bool) (b : Bool) {c whole : Bool} {r : Row} {rows rest : List Row} → rows ≡ r ∷ rest → c ≡ b || f r → (b || any f rows) ≡ whole
    → (c || any f rest) ≡ whole
seen_next f b {rest = rest} e h w = ap (λ (t : Bool). t || any f rest) h ∙ any_on f b e w

-- a copy of entries in front of others, with what stands for no position in the seat
pub beside_copy : (es copy rest : List NodeEntry) (s : ℕ) (d : NodeEntry) → copy ≡ es → s < length es → row_of d ≡ no_row
    → map row_of (take (length es) (set (copy ++ rest) s d)) ≡ beside s (map row_of es)
beside_copy es copy rest s d e l none =
    let m : length es ≤ length es = omega arith in
    ap (λ (xs : List NodeEntry). map row_of (take (length es) (set (xs ++ rest) s d))) e
    ∙ ap (map row_of)
    (take-set-lt (length es) (es ++ rest) s d l ∙ ap (λ (xs : List NodeEntry). set xs s d) (take-append-le (length es) es rest m ∙ take_all (length es) es m))
    ∙ map-set row_of es s d ∙ ap (set (map row_of es) s) none

-- a list with another element in one place: the element at hand, and those behind it
module _ {A : Type 0} where
  set_here : (i : ℕ) (a : A) (xs : List A) → i < length xs → drop i (set xs i a) ≡ a ∷ drop (suc i) (set xs i a)
  set_here i a [] h = absurd (not-suc-le-zero h)
  set_here zero a (x ∷ xs) h = refl
  set_here (suc i) a (x ∷ xs) h = set_here i a xs (le_of_suc-le-suc h)

  set_there : (i s : ℕ) (a d : A) (xs : List A) → i < length xs → (i ≡ s → ⊥) → drop i (set xs s a) ≡ get_or xs i d ∷ drop (suc i) (set xs s a)
  set_there i s a d [] h n = absurd (not-suc-le-zero h)
  set_there zero zero a d (x ∷ xs) h n = absurd (n refl)
  set_there zero (suc s) a d (x ∷ xs) h n = refl
  set_there (suc i) zero a d (x ∷ xs) h n = drop-cons xs i d (le_of_suc-le-suc h)
  set_there (suc i) (suc s) a d (x ∷ xs) h n = set_there i s a d xs (le_of_suc-le-suc h) (λ e. n (ap suc e))

  set_at : (i s : ℕ) (a d : A) (xs : List A) → i < length xs → drop i (set xs s a) ≡ cond (eqb i s) a (get_or xs i d) ∷ drop (i + 1) (set xs s a)
  set_at i s a d xs h = go (eqb i s) refl ∙ ap (λ (n : ℕ). cond (eqb i s) a (get_or xs i d) ∷ drop n (set xs s a)) (sym (add-one i))
    where
      go : (b : Bool) → eqb i s ≡ b → drop i (set xs s a) ≡ cond b a (get_or xs i d) ∷ drop (suc i) (set xs s a)
      go true e = ap (λ (n : ℕ). drop i (set xs n a)) (sym (eqb-true i s e)) ∙ set_here i a xs h ∙ ap (λ (n : ℕ). a ∷ drop (suc i) (set xs n a)) (eqb-true i s e)
      go false e = set_there i s a d xs h (eqb-false i s e)

module _ (es : List NodeEntry) (i s : ℕ) where
  pub beside_here : (d : NodeEntry) {r : Row} → i < length es → r ≡ cond (eqb i s) no_row (row_of (get_or es i d))
      → drop i (beside s (map row_of es)) ≡ r ∷ drop (i + 1) (beside s (map row_of es))
  beside_here d l e =
      set_at i s no_row no_row (map row_of es) (omega (arith, l, length-map es row_of))
      ∙ ap (λ (r : Row). r ∷ drop (i + 1) (beside s (map row_of es))) (ap (cond (eqb i s) no_row) (get_or-map row_of es i d no_row l) ∙ sym e)

  pub beside_past : length es ≤ i → drop i (beside s (map row_of es)) ≡ []
  beside_past l =
      drop_of_length-le (beside s (map row_of es)) {i = i} (omega (arith, l, length-map es row_of, length-set (map row_of es) s no_row))
