-- Sums over a list.
use Rattle.std.specs.Prelude.{◌≡◌, length, get_or, replicate}
use Rattle.std.proofs.Math.Path.{refl}
use mathlib.Core.List.{List, [], ◌∷◌, ◌++◌}
use Prim.Native.Nat.{ℕ, zero, suc, ◌+◌, ◌*◌, ◌<◌, ◌≤◌}
use native.Mathlib.Omega.{arith}
use Rattle.std.proofs.Common.{not-suc-le-zero, le_of_suc-le-suc}
use Rattle.laws.specs.Alls.{All, all_nil, all_cons, Each, each_nil, each_cons}

module _ {A : Type 0} where
  -- the sum of what each element weighs
  unfoldable pub total : (A → ℕ) → List A → ℕ
  total w [] = 0
  total w (x ∷ xs) = w x + total w xs

  module _ (w : A → ℕ) where
    pub total_append : (xs ys : List A) → total w (xs ++ ys) ≡ total w xs + total w ys
    unfolding total
    total_append [] ys = omega arith
    total_append (x ∷ xs) ys = let e = total_append xs ys in omega arith

    pub total_seat : (xs : List A) (r : A) (ys : List A) → total w (xs ++ r ∷ ys) ≡ w r + total w (xs ++ ys)
    unfolding total
    total_seat [] r ys = refl
    total_seat (x ∷ xs) r ys = let e = total_seat xs r ys in omega arith

    pub total_replicate : (n : ℕ) (x : A) → total w (replicate n x) ≡ n * w x
    unfolding total
    total_replicate zero x = omega arith
    total_replicate (suc n) x = let e = total_replicate n x in omega arith

    pub total_bound : (k : ℕ) {xs : List A} → All (λ (x : A). w x ≤ k) xs → total w xs ≤ length xs * k
    unfolding total
    total_bound k all_nil = omega arith
    total_bound k (all_cons h hs) = let e = total_bound k hs in omega arith

    pub total_each : {R : A → A → Type 0} → ((x y : A) → R x y → w y ≤ w x) → {xs ys : List A} → Each R xs ys → total w ys ≤ total w xs
    unfolding total
    total_each f each_nil = omega arith
    total_each f (each_cons {x} {y} h hs) = let e = total_each f hs in let g = f x y h in omega arith

    -- the element in the seat weighs less and no other weighs more
    pub total_lower : (xs xs' : List A) (r r' : A) (ys ys' : List A) → total w xs' ≤ total w xs → w r' < w r → total w ys' ≤ total w ys
        → total w (xs' ++ r' ∷ ys') < total w (xs ++ r ∷ ys)
    total_lower xs xs' r r' ys ys' h k m = simp (total_seat, total_append) (omega arith)

    -- one element weighs no more than all
    pub total_at : (xs : List A) (i : ℕ) (d : A) → i < length xs → w (get_or xs i d) ≤ total w xs
    unfolding total
    total_at [] i d h = absurd (not-suc-le-zero h)
    total_at (x ∷ xs) zero d h = omega arith
    total_at (x ∷ xs) (suc i) d h = let e = total_at xs i d (le_of_suc-le-suc h) in omega arith
