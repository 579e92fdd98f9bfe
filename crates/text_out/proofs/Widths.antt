-- How many decimal digits a number has.
use Prim.Native.Nat.{ℕ, zero, suc, ◌-◌, ◌/◌, ◌^◌, ◌≤◌, ◌<◌}
use mathlib.Core.Path.{◌≡◌, refl, sym, ◌∙◌, ap}
use mathlib.Core.Bool.{Bool, true, false, cond}
use native.Mathlib.Nat.{pow-suc, one-le-pow}
use native.Mathlib.Omega.{arith}
use borrow.Author.Tests.{lt-ltb, le-ltb, ltb-true, ltb-false}
use lib.Dec.{ltb}
use Rattle.io.specs.Digits.{IsDigitCount}
use Rattle.laws.specs.Bools.{cond_true, cond_false}
use Rattle.text_out.specs.Spelling.{places_by, places_of, width_of}

-- to count by more than enough changes nothing
places_enough : (f g n : ℕ) → n ≤ f → n ≤ g → places_by f n ≡ places_by g n
unfolding places_by
places_enough zero zero n h k = refl
places_enough zero (suc g) n h k = sym (cond_false _ 0 (le-ltb 0 n h))
places_enough (suc f) zero n h k = cond_false _ 0 (le-ltb 0 n k)
places_enough (suc f) (suc g) n h k = ap (λ (m : ℕ). cond (ltb 0 n) (suc m) 0) (places_enough f g (n / 10) (omega (arith, h)) (omega (arith, k)))

-- nothing is left, or one more place and those before it
pub places_none : (n : ℕ) → n ≤ 0 → places_of n ≡ 0
unfolding places_by
places_none n h = places_enough n 0 n (omega arith) h

pub places_more : (n : ℕ) → 0 < n → places_of n ≡ suc (places_of (n / 10))
unfolding places_by
places_more n h =
    places_enough n (suc n) n (omega arith) (omega arith) ∙ cond_true _ 0 (lt-ltb 0 n h) ∙ ap suc (places_enough n (n / 10) (n / 10) (omega arith) (omega arith))

-- as many places as the power of ten that is just above
places_are : (k n : ℕ) → n < 10 ^ k → ((j : ℕ) → k ≡ suc j → 10 ^ j ≤ n) → places_of n ≡ k
places_are zero n h l = places_none n (omega (arith, h))
places_are (suc k) n h l =
    let low = l k refl in
    let some = one-le-pow k 10 (omega arith) in
    let p = pow-suc 10 k in
    places_more n (omega arith) ∙ ap suc (places_are k (n / 10) (omega (arith, h)) (λ j e. omega (arith, pow-suc 10 j, ap (λ (m : ℕ). 10 ^ m) e)))

-- at most as many places as a power of ten that is above
places_at_most : (k n : ℕ) → n < 10 ^ k → places_of n ≤ k
places_at_most zero n h = omega (arith, places_none n (omega (arith, h)))
places_at_most (suc k) n h = go (ltb 0 n) refl (places_at_most k (n / 10) (omega (arith, h, pow-suc 10 k)))
  where
    go : (b : Bool) → ltb 0 n ≡ b → places_of (n / 10) ≤ k → places_of n ≤ suc k
    go true e r = omega (arith, places_more n (ltb-true 0 n e), r)
    go false e r = omega (arith, places_none n (ltb-false 0 n e))

-- the fewest digits that hold a number are its width
pub width_is : (n k : ℕ) → IsDigitCount 10 1 n k → k ≡ width_of n
unfolding width_of
width_is n zero h = absurd (omega (arith, h.0))
width_is n (suc k) h =
    let p = pow-suc 10 k in
    let e : suc k - 1 ≡ k = omega arith in
    ap suc (sym (places_are k (n / 10) (omega (arith, h.1)) (λ j f.
    omega (arith, h.2 (omega arith), ap (λ (m : ℕ). 10 ^ m) e, ap (λ (m : ℕ). 10 ^ m) f, pow-suc 10 j))))

-- a number of 64 bits has at most 20
pub width_at_most : (n : ℕ) → n < 18446744073709551616 → width_of n ≤ 20
unfolding width_of
width_at_most n h = let p = places_at_most 19 (n / 10) (omega (arith, h)) in omega arith
