-- How long an order is at least.
use Prim.Native.Nat.{ℕ, ◌+◌, ◌*◌, ◌≤◌}
use mathlib.Core.Bool.{Bool, true, false, cond, ◌||◌}
use mathlib.Core.List.{List}
use native.Mathlib.Omega.{arith}
use mathlib.Core.Logic.{◌⊎◌, inl, inr}
use mathlib.Core.Path.{◌≡◌, ap}
use borrow.Author.Tests.{eq-eqb, ne_eqb}
use Rattle.laws.specs.Bools.{decide, or_true_right}
use Rattle.std.proofs.Common.{leb-true, leb-false}
use lib.Dec.{eqb, leb}
use lib.ListN.{get_or}
use Rattle.rules_unit.specs.Reading.{length_by, order_length}

-- mark, kind and pass are there
pub head_there : (b : List ℕ) → 7 ≤ order_length b
unfolding order_length length_by
head_there b = go (eqb (get_or b 2 0) 1) (eqb (get_or b 2 0) 2) (eqb (get_or b 2 0) 5 || eqb (get_or b 2 0) 6) (get_or b 7 0)
  where
    go : (ask set list : Bool) (n : ℕ) → 7 ≤ cond ask 8 (cond set 13 (cond list (8 + 2 * n) 7))
    go true set list n = omega arith
    go false true list n = omega arith
    go false false true n = omega arith
    go false false false n = omega arith

-- NEW and INVALID count their pairs; any other kind but ASK and SET is mark, kind and pass alone
lists : (k : ℕ) → 5 ≤ k → k ≤ 6 → (eqb k 5 || eqb k 6) ≡ true
lists k h l = go (decide (leb k 5))
  where
    go : (leb k 5 ≡ true) ⊎ (leb k 5 ≡ false) → (eqb k 5 || eqb k 6) ≡ true
    go (inl e) = let f = leb-true k 5 e in ap (λ (b : Bool). b || eqb k 6) (eq-eqb k 5 (omega arith))
    go (inr e) = let f = leb-false k 5 e in or_true_right (eqb k 5) (eqb k 6) (eq-eqb k 6 (omega arith))

pub listing_length : (k n : ℕ) → 5 ≤ k → k ≤ 6 → 8 + 2 * n ≡ length_by k n
unfolding length_by
listing_length k n h l = simp (ne_eqb k 1 (λ e. omega (arith, e)), ne_eqb k 2 (λ e. omega (arith, e)), lists k h l)

pub plain_length : (k n : ℕ) → (k ≡ 1 → ⊥) → (k ≡ 2 → ⊥) → (k ≡ 5 → ⊥) → (k ≡ 6 → ⊥) → 7 ≡ length_by k n
unfolding length_by
plain_length k n a s w i = simp (ne_eqb k 1 a, ne_eqb k 2 s, ne_eqb k 5 w, ne_eqb k 6 i)
