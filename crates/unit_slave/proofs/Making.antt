-- A unit made from bytes: how many pairs they are, and which bytes are refused.
use Prim.Native.Nat.{ℕ, ◌*◌, ◌/◌, ◌%◌, ◌<◌, ◌≤◌}
use mathlib.Core.Path.{◌≡◌, ap}
use mathlib.Core.Bool.{Bool, true, false, not}
use mathlib.Core.List.{List, [], ◌∷◌}
use native.Mathlib.Omega.{arith}
use borrow.Author.Tests.{lt-ltb, le-ltb, eq-eqb, ne_eqb}
use lib.Dec.{eqb, ltb}
use lib.ListN.{length, take}
use lib.Seq.{take_all}
use Rattle.laws.specs.Bools.{or_true_left, or_true_right, or_false}
use Rattle.rules.specs.House.{max_pairs}
use Rattle.rules.specs.Event.{read_pairs}
use Rattle.rules_unit.specs.Slave.{not_made}

-- as many pairs as there are two bytes
read_count : (b : List ℕ) → length (read_pairs b) ≡ length b / 2
unfolding read_pairs
read_count [] = omega arith
read_count (x ∷ []) = omega arith
read_count (x ∷ y ∷ b) = let e = read_count b in omega arith

module _ (b : List ℕ) where
  half : Bool
  half = not (eqb (length b) (2 * length (read_pairs b)))

  many : Bool
  many = ltb max_pairs (length (read_pairs b))

  -- half a pair, and too many pairs
  pub not_whole : (length b % 2 ≡ 0 → ⊥) → not_made b ≡ true
  unfolding not_made half many
  not_whole h = or_true_left half many (ap not (ne_eqb (length b) (2 * length (read_pairs b)) (λ e. h (omega (arith, e)))))

  pub too_many : max_pairs < length b / 2 → not_made b ≡ true
  unfolding not_made half many
  too_many h = or_true_right half many (lt-ltb max_pairs (length (read_pairs b)) (omega (arith, read_count b)))

  pub whole : length b % 2 ≡ 0 → length b / 2 ≤ max_pairs → not_made b ≡ false
  unfolding not_made half many
  whole h l =
      or_false half many (ap not (eq-eqb (length b) (2 * length (read_pairs b)) (omega (arith, read_count b)))) (le-ltb max_pairs (length (read_pairs b)) (omega (arith, read_count b)))

  -- so few are all that are read
  pub all_read : length b / 2 ≤ max_pairs → take max_pairs (read_pairs b) ≡ read_pairs b
  all_read h = take_all max_pairs (read_pairs b) (omega (arith, read_count b))
