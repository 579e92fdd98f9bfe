-- What a telegram is in its message, by its TelID.
use Rattle.std.specs.Prelude.{ℕ, ◌≡◌, ◌≤◌, Result, MatchResult}
use Rattle.tel_head.specs.declared.TelId.{TelId}
use Rattle.tel_head.specs.declared.TelId.TheVariants as ids
use Rattle.numbers.specs.declared.Refusal.{Refusal}
use Rattle.numbers.specs.declared.Refusal.TheVariants as refusals

-- "Payload up to L: one telegram, TelID 0. More: TelID 1, 2 .. 2, 3"
abbrev pub tel_id_number : TelId → ℕ
tel_id_number ids.Single = 0
tel_id_number ids.First = 1
tel_id_number ids.Next = 2
tel_id_number ids.Final = 3

-- a number up to 3 is that TelID's, and any other is refused with 15
abbrev pub Reads : ℕ → Result TelId Refusal → Type 0
Reads n r = MatchResult r (λ id. tel_id_number id ≡ n) (λ e. (4 ≤ n) × (e ≡ refusals.TelIdPassedOver))
