-- Digits: what a byte's place among the ranges says of its value.
use Prim.Native.Nat.{ℕ, ◌+◌, ◌-◌, ◌≤◌, ◌<◌}
use mathlib.Core.Path.{◌≡◌, refl, sym, ◌∙◌, ap}
use mathlib.Core.Bool.{Bool, true, false, cond}
use native.Mathlib.Omega.{arith}
use borrow.Author.Tests.{le-leb, lt-leb, ne_eqb, eqb-true}
use lib.Dec.{leb, eqb}
use Rattle.laws.specs.Bools.{and_true, and_none, cond_true, cond_false}
use Rattle.std.specs.Prelude.{Option, Some, None, unwrap_or}
use Rattle.text_words.specs.Text.{within, hex_value, digit_of}

module _ (low high b : ℕ) where
  pub inside : low ≤ b → b ≤ high → within low high b ≡ true
  inside h k = and_true (leb low b) (leb b high) (le-leb low b h) (le-leb b high k)

  pub below : b < low → within low high b ≡ false
  below h = rw (lt-leb low b h)

  pub above : high < b → within low high b ≡ false
  above h = rw (lt-leb b high h) (and_none (leb low b))

module _ (b : ℕ) where
  pub decimal_digit : within 48 57 b ≡ true → hex_value b ≡ b - 48
  unfolding hex_value
  decimal_digit h = cond_true _ _ h

  pub upper_digit : within 48 57 b ≡ false → within 65 70 b ≡ true → hex_value b ≡ b - 65 + 10
  unfolding hex_value
  upper_digit h k = cond_false _ _ h ∙ cond_true _ _ k

  pub lower_digit : within 48 57 b ≡ false → within 65 70 b ≡ false → within 97 102 b ≡ true → hex_value b ≡ b - 97 + 10
  unfolding hex_value
  lower_digit h k l = cond_false _ _ h ∙ cond_false _ _ k ∙ cond_true _ _ l

  pub no_digit : within 48 57 b ≡ false → within 65 70 b ≡ false → within 97 102 b ≡ false → hex_value b ≡ 16
  unfolding hex_value
  no_digit h k l = cond_false _ _ h ∙ cond_false _ _ k ∙ cond_false _ _ l

  -- the value of a digit, and of another byte
  pub is_digit : {v : ℕ} → hex_value b ≡ v → v < 16 → Some v ≡ digit_of b
  unfolding digit_of
  is_digit {v} e h = rw (e, ne_eqb v 16 (λ (k : v ≡ 16). omega (arith, h, k)))

  pub is_none : hex_value b ≡ 16 → None ≡ digit_of b
  unfolding digit_of
  is_none e = rw e

  -- what a byte counts for
  pub counted_is : {o : Option ℕ} → o ≡ digit_of b → unwrap_or o 16 ≡ hex_value b
  unfolding digit_of
  counted_is e = ap (λ (o : Option ℕ). unwrap_or o 16) e ∙ go (eqb (hex_value b) 16) refl
    where
      go : (x : Bool) → eqb (hex_value b) 16 ≡ x → unwrap_or (cond x None (Some (hex_value b))) 16 ≡ hex_value b
      go true k = sym (eqb-true (hex_value b) 16 k)
      go false k = refl
