-- Runs: how many elements at the start of a list pass a test, and the element at hand of a loop that reads.
use Rattle.std.specs.Prelude.{◌≡◌, Bool, ℕ, suc, ◌+◌, ◌-◌, ◌≤◌, ◌<◌, length, get_or, drop, take}
use Rattle.std.proofs.Math.Path.{refl, ap}
use Rattle.std.proofs.Common.{◌∙◌, add-one, arith, drop_of_length-le, drop-cons, take-suc}
use Rattle.std.proofs.Math.Bool.{true, false, cond}
use mathlib.Core.List.{List, [], ◌∷◌, reverse, reverse-append}

module _ {A : Type 0} where
  -- how many elements at the start pass the test
  unfoldable pub leading : (A → Bool) → List A → ℕ
  leading f [] = 0
  leading f (x ∷ xs) = cond (f x) (suc (leading f xs)) 0

  module _ (f : A → Bool) where
    -- the first does not pass, the first passes, there is none
    pub leading_here : {x : A} {xs rest : List A} → xs ≡ x ∷ rest → f x ≡ false → leading f xs ≡ 0
    unfolding leading
    leading_here {rest = rest} e h = ap (leading f) e ∙ ap (λ (b : Bool). cond b (suc (leading f rest)) 0) h

    pub leading_on : {x : A} {xs rest : List A} → xs ≡ x ∷ rest → f x ≡ true → leading f xs ≡ suc (leading f rest)
    unfolding leading
    leading_on {rest = rest} e h = ap (leading f) e ∙ ap (λ (b : Bool). cond b (suc (leading f rest)) 0) h

    pub leading_end : {xs : List A} → xs ≡ [] → leading f xs ≡ 0
    unfolding leading
    leading_end e = ap (leading f) e

    -- behind a run there is none
    pub leading_again : (xs : List A) → leading f (drop (leading f xs) xs) ≡ 0
    unfolding leading
    leading_again [] = refl
    leading_again (x ∷ xs) = go (f x) refl (leading_again xs)
      where
        go : (b : Bool) → f x ≡ b → leading f (drop (leading f xs) xs) ≡ 0 → leading f (drop (cond b (suc (leading f xs)) 0) (x ∷ xs)) ≡ 0
        go true e h = h
        go false e h = ap (λ (b : Bool). cond b (suc (leading f xs)) 0) e

  -- from the front: the element at i, and those behind it
  pub drop_here : (xs : List A) (i : ℕ) (d : A) → i < length xs → drop i xs ≡ get_or xs i d ∷ drop (i + 1) xs
  drop_here xs i d h = rw (add-one i) (drop-cons xs i d h)

  pub drop_two : (xs : List A) (i : ℕ) (d : A) → i + 1 < length xs → drop i xs ≡ get_or xs i d ∷ get_or xs (i + 1) d ∷ drop (i + 2) xs
  drop_two xs i d h =
      let e : i + 1 + 1 ≡ i + 2 = omega arith in
      drop_here xs i d (omega arith) ∙ ap (λ (l : List A). get_or xs i d ∷ l) (drop_here xs (i + 1) d h)
      ∙ ap (λ (n : ℕ). get_or xs i d ∷ get_or xs (i + 1) d ∷ drop n xs) e

  -- from the back: the last of the first n, and those before it
  pub reverse_here : (xs : List A) (n : ℕ) (d : A) → 0 < n → n ≤ length xs → reverse (take n xs) ≡ get_or xs (n - 1) d ∷ reverse (take (n - 1) xs)
  reverse_here xs n d h k =
      let e : n ≡ suc (n - 1) = omega arith in
      ap (λ (m : ℕ). reverse (take m xs)) e ∙ ap reverse (take-suc xs (n - 1) d (omega arith)) ∙ reverse-append (take (n - 1) xs) (get_or xs (n - 1) d ∷ [])

-- a loop that passes over a run from the front: it stops, goes on, and comes to the end
module _ {A : Type 0} (f : A → Bool) (xs : List A) (i : ℕ) {whole : ℕ} where
  pub run_stops : (d : A) → i < length xs → f (get_or xs i d) ≡ false → i + leading f (drop i xs) ≡ whole → i ≡ whole
  run_stops d h k e = omega (arith, leading_here f (drop_here xs i d h) k)

  pub run_on : (d : A) → i < length xs → f (get_or xs i d) ≡ true → i + leading f (drop i xs) ≡ whole → i + 1 + leading f (drop (i + 1) xs) ≡ whole
  run_on d h k e = omega (arith, leading_on f (drop_here xs i d h) k)

  pub run_ends : length xs ≤ i → i + leading f (drop i xs) ≡ whole → i ≡ whole
  run_ends h e = omega (arith, leading_end f (drop_of_length-le xs h))

-- and from the back
module _ {A : Type 0} (f : A → Bool) (xs : List A) (n : ℕ) {whole : ℕ} where
  pub back_stops : (d : A) → 0 < n → n ≤ length xs → f (get_or xs (n - 1) d) ≡ false → n - leading f (reverse (take n xs)) ≡ whole → n ≡ whole
  back_stops d h l k e = omega (arith, leading_here f (reverse_here xs n d h l) k)

  pub back_on : (d : A) → 0 < n → n ≤ length xs → f (get_or xs (n - 1) d) ≡ true → n - leading f (reverse (take n xs)) ≡ whole
      → n - 1 - leading f (reverse (take (n - 1) xs)) ≡ whole
  back_on d h l k e = omega (arith, leading_on f (reverse_here xs n d h l) k)
