-- Views of arrays: what the first so many elements stand for, and loops over them.
use Rattle.std.specs.Prelude.{◌≡◌, Bool, true, false, ◌||◌, ◌⊎◌, leb, length, get_or, set, drop, take, replicate}
use Rattle.std.proofs.Math.Path.{refl, sym, ap}
use Rattle.std.proofs.Common.{◌∙◌, inl, inr, not-suc-le-zero, le_of_suc-le-suc, add-one, leb-true, leb-false, take_all}
use mathlib.Core.List.{List, [], ◌∷◌, ◌++◌, map}
use Prim.Native.Nat.{ℕ, zero, suc, ◌+◌, ◌≤◌, ◌<◌, min}
use native.Mathlib.Omega.{arith}
use Rattle.laws.specs.Lists.{any}
use Rattle.laws.specs.Bools.{decide}

module _ {A B : Type 0} (v : A → B) where
  -- what the first k elements stand for; an array that is shorter ends it
  unfoldable pub firsts : ℕ → List A → List B
  firsts zero xs = []
  firsts (suc k) [] = []
  firsts (suc k) (x ∷ xs) = v x ∷ firsts k xs

  pub firsts_length : (k : ℕ) (xs : List A) → k ≤ length xs → length (firsts k xs) ≡ k
  unfolding firsts
  firsts_length zero xs h = refl
  firsts_length (suc k) [] h = absurd (not-suc-le-zero h)
  firsts_length (suc k) (x ∷ xs) h = ap suc (firsts_length k xs (le_of_suc-le-suc h))

  pub firsts_few : (k : ℕ) (xs : List A) → length (firsts k xs) ≤ k
  unfolding firsts
  firsts_few zero xs = omega arith
  firsts_few (suc k) [] = omega arith
  firsts_few (suc k) (x ∷ xs) = let h = firsts_few k xs in omega arith

  -- the element at i, and those behind it
  here : (k i : ℕ) (d : A) (xs : List A) → i < k → i < length xs → drop i (firsts k xs) ≡ v (get_or xs i d) ∷ drop (suc i) (firsts k xs)
  unfolding firsts
  here zero i d xs h l = absurd (not-suc-le-zero h)
  here (suc k) i d [] h l = absurd (not-suc-le-zero l)
  here (suc k) zero d (x ∷ xs) h l = refl
  here (suc k) (suc i) d (x ∷ xs) h l = here k i d xs (le_of_suc-le-suc h) (le_of_suc-le-suc l)

  pub firsts_here : (k i : ℕ) (d : A) (xs : List A) → i < k → i < length xs → drop i (firsts k xs) ≡ v (get_or xs i d) ∷ drop (i + 1) (firsts k xs)
  firsts_here k i d xs h l = rw (add-one i) (here k i d xs h l)

  pub firsts_past : (k i : ℕ) (xs : List A) → k ≤ i → drop i (firsts k xs) ≡ []
  unfolding firsts
  firsts_past zero zero xs h = refl
  firsts_past zero (suc i) xs h = refl
  firsts_past (suc k) zero xs h = absurd (not-suc-le-zero h)
  firsts_past (suc k) (suc i) [] h = refl
  firsts_past (suc k) (suc i) (x ∷ xs) h = firsts_past k i xs (le_of_suc-le-suc h)

  pub firsts_at : (k i : ℕ) (d : A) (e : B) (xs : List A) → i < k → i < length xs → get_or (firsts k xs) i e ≡ v (get_or xs i d)
  unfolding firsts
  firsts_at zero i d e xs h l = absurd (not-suc-le-zero h)
  firsts_at (suc k) i d e [] h l = absurd (not-suc-le-zero l)
  firsts_at (suc k) zero d e (x ∷ xs) h l = refl
  firsts_at (suc k) (suc i) d e (x ∷ xs) h l = firsts_at k i d e xs (le_of_suc-le-suc h) (le_of_suc-le-suc l)

  -- a store shows in the view
  pub firsts_set : (k i : ℕ) (a : A) (xs : List A) → firsts k (set xs i a) ≡ set (firsts k xs) i (v a)
  unfolding firsts
  firsts_set zero i a xs = refl
  firsts_set (suc k) zero a [] = refl
  firsts_set (suc k) (suc i) a [] = refl
  firsts_set (suc k) zero a (x ∷ xs) = refl
  firsts_set (suc k) (suc i) a (x ∷ xs) = ap (λ (l : List B). v x ∷ l) (firsts_set k i a xs)

  pub firsts_replicate : (k n : ℕ) (x : A) → k ≤ n → firsts k (replicate n x) ≡ replicate k (v x)
  unfolding firsts
  firsts_replicate zero n x h = refl
  firsts_replicate (suc k) zero x h = absurd (not-suc-le-zero h)
  firsts_replicate (suc k) (suc n) x h = ap (λ (l : List B). v x ∷ l) (firsts_replicate k n x (le_of_suc-le-suc h))

  -- one more element, stored behind the first k
  push : (k : ℕ) (a : A) (xs : List A) → k < length xs → firsts (suc k) (set xs k a) ≡ firsts k xs ++ v a ∷ []
  unfolding firsts
  push k a [] h = absurd (not-suc-le-zero h)
  push zero a (x ∷ xs) h = refl
  push (suc k) a (x ∷ xs) h = ap (λ (l : List B). v x ∷ l) (push k a xs (le_of_suc-le-suc h))

  pub firsts_push : (k : ℕ) (a : A) (xs : List A) → k < length xs → firsts (k + 1) (set xs k a) ≡ firsts k xs ++ v a ∷ []
  firsts_push k a xs h = rw (add-one k) (push k a xs h)

  -- the first of the first
  pub take_firsts : (j k : ℕ) (xs : List A) → j ≤ k → take j (firsts k xs) ≡ firsts j xs
  unfolding firsts
  take_firsts zero k xs h = refl
  take_firsts (suc j) zero xs h = absurd (not-suc-le-zero h)
  take_firsts (suc j) (suc k) [] h = refl
  take_firsts (suc j) (suc k) (x ∷ xs) h = ap (λ (l : List B). v x ∷ l) (take_firsts j k xs (le_of_suc-le-suc h))

  pub take_past : (j k : ℕ) (xs : List A) → k ≤ j → take j (firsts k xs) ≡ firsts k xs
  take_past j k xs h = take_all j (firsts k xs) (omega (arith, firsts_few k xs))

  -- more than all is all
  pub firsts_all : (k : ℕ) (xs : List A) → length xs ≤ k → firsts k xs ≡ map v xs
  unfolding firsts
  firsts_all zero [] h = refl
  firsts_all zero (x ∷ xs) h = absurd (not-suc-le-zero h)
  firsts_all (suc k) [] h = refl
  firsts_all (suc k) (x ∷ xs) h = ap (λ (l : List B). v x ∷ l) (firsts_all k xs (le_of_suc-le-suc h))

  pub firsts_min : (k n : ℕ) (xs : List A) → length xs ≤ n → firsts (min k n) xs ≡ firsts k xs
  firsts_min k n xs h = go (decide (leb k n))
    where
      go : (leb k n ≡ true) ⊎ (leb k n ≡ false) → firsts (min k n) xs ≡ firsts k xs
      go (inl l) = let e : min k n ≡ k = omega (arith, leb-true k n l) in rw e refl
      go (inr l) = let f = leb-false k n l in let e : min k n ≡ n = omega arith in rw e (firsts_all n xs h ∙ sym (firsts_all k xs (omega arith)))

module _ {A : Type 0} where
  -- every element from i on replaced by what f makes of it
  unfoldable pub map_from : (A → A) → ℕ → List A → List A
  map_from f zero xs = map f xs
  map_from f (suc i) [] = []
  map_from f (suc i) (x ∷ xs) = x ∷ map_from f i xs

  map_on : (f : A → A) (i : ℕ) (d : A) (xs : List A) → i < length xs → map_from f (suc i) (set xs i (f (get_or xs i d))) ≡ map_from f i xs
  unfolding map_from
  map_on f i d [] h = absurd (not-suc-le-zero h)
  map_on f zero d (x ∷ xs) h = refl
  map_on f (suc i) d (x ∷ xs) h = ap (λ (l : List A). x ∷ l) (map_on f i d xs (le_of_suc-le-suc h))

  pub map_from_on : (f : A → A) (i : ℕ) (d : A) (xs : List A) → i < length xs → map_from f (i + 1) (set xs i (f (get_or xs i d))) ≡ map_from f i xs
  map_from_on f i d xs h = rw (add-one i) (map_on f i d xs h)

  pub map_from_end : (f : A → A) (i : ℕ) (xs : List A) → length xs ≤ i → map_from f i xs ≡ xs
  unfolding map_from
  map_from_end f zero [] h = refl
  map_from_end f zero (x ∷ xs) h = absurd (not-suc-le-zero h)
  map_from_end f (suc i) [] h = refl
  map_from_end f (suc i) (x ∷ xs) h = ap (λ (l : List A). x ∷ l) (map_from_end f i xs (le_of_suc-le-suc h))

-- a search that ends where it finds: the element at hand, those behind it, and none
module _ {A : Type 0} (f : A → Bool) where
  pub any_here : {x : A} {xs rest : List A} → xs ≡ x ∷ rest → f x ≡ true → any f xs ≡ true
  unfolding any
  any_here {rest = rest} e h = ap (any f) e ∙ ap (λ (b : Bool). b || any f rest) h

  pub any_skip : {x : A} {xs rest : List A} → xs ≡ x ∷ rest → f x ≡ false → any f rest ≡ any f xs
  unfolding any
  any_skip {rest = rest} e h = sym (ap (any f) e ∙ ap (λ (b : Bool). b || any f rest) h)

  pub any_empty : {xs : List A} → xs ≡ [] → any f xs ≡ false
  unfolding any
  any_empty e = ap (any f) e

-- a search that goes to the end: what was found so far, or what stands from i on
pub any_on : {A : Type 0} (f : A → Bool) (b : Bool) {whole : Bool} {x : A} {xs rest : List A} → xs ≡ x ∷ rest → (b || any f xs) ≡ whole → ((b || f x) || any f rest) ≡ whole
unfolding any
any_on f true e h = h
any_on f false {rest = rest} e h = sym (ap (any f) e) ∙ h

pub any_end : {A : Type 0} (f : A → Bool) (b : Bool) {whole : Bool} {xs : List A} → xs ≡ [] → (b || any f xs) ≡ whole → b ≡ whole
unfolding any
any_end f true e h = h
any_end f false e h = sym (ap (any f) e) ∙ h
