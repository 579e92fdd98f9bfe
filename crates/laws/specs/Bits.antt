-- Bits: two numbers in one, by shift and mask.
use Rattle.std.specs.Prelude.{◌≡◌, ℕ, ◌+◌, ◌*◌, ◌%◌, ◌^◌, ◌<◌}
use Rattle.std.proofs.Common.{◌∙◌, ap, mod-eq_of_lt}
use Rattle.std.specs.Int.Bits.{bit_or}
use Rattle.std.proofs.lemmas.Nat.{or_shifted}

-- In a word of w bits: a above the low k bits, and b in them.
pub shift_or : (w k a b : ℕ) → a * 2 ^ k < 2 ^ w → b < 2 ^ k → bit_or (a * 2 ^ k % 2 ^ w) b ≡ a * 2 ^ k + b
shift_or w k a b fits low = ap (λ (n : ℕ). bit_or n b) (mod-eq_of_lt fits) ∙ or_shifted a k b low
