-- Which payload sizes and which messages there are telegrams for.
use Rattle.std.specs.Prelude.{ℕ, true, false, ◌≡◌, ◌≤◌, ◌<◌, ◌⊎◌, ⊤, Result, MatchResult}
use Rattle.rules.specs.House.{max_payload}
use Rattle.rules.specs.Picture.{legal_size}
use Rattle.numbers.specs.declared.Refusal.{Refusal}
use Rattle.numbers.specs.declared.Refusal.TheVariants as refusals

-- 10; or, of a right L, 11
abbrev pub Forbids : (size bytes : ℕ) → Refusal → Type 0
Forbids l n e = ((e ≡ refusals.IllegalSize) × (legal_size l ≡ false)) ⊎ ((e ≡ refusals.PayloadTooLong) × (legal_size l ≡ true) × (max_payload < n))

abbrev pub Allows : (size bytes : ℕ) → Result ⊤ Refusal → Type 0
Allows l n r = MatchResult r (λ _. (legal_size l ≡ true) × (n ≤ max_payload)) (Forbids l n)
