-- Marks beside numbers, and what the code's answers stand for.
use Rattle.std.specs.Prelude.{ℕ, zero, suc, ◌<◌, ◌≡◌, Bool, false, cond, ◌||◌, List, ltb, length, get_or, map, Option, Some, None, MatchOption, ⊤}
use Rattle.std.proofs.Math.Option as math
use Rattle.std.proofs.Math.Option.{none, some}
use Rattle.laws.specs.Lists.{collect}
use Rattle.rules.specs.House.{max_tries}
use Rattle.rules.specs.Renumber as rules
use Rattle.rules.specs.Renumber.{Judged, free_number, is_in, offer, finished, renumbers}
use Rattle.rules.specs.Picture.{pairs_in}
use Rattle.wire_pairs.specs.declared.Pairs.{Pairs}
use Rattle.wire_pairs.specs.View.{pair_in, pairs_of}
use Rattle.row_entry.specs.declared.NodeEntry.{NodeEntry}
use Rattle.row_entry.specs.View.{row_of}
use Rattle.row_renumber.specs.declared.renumber.Offer.{Offer}

-- a table of marked numbers
unfoldable pub is_marked : List Bool → ℕ → Bool
is_marked table n = get_or table n false

-- the table has these numbers marked too, and no others
pub record Added (before : List Bool) (numbers : List ℕ) (after : List Bool) : Type 0 where
  pub full : length after ≡ length before
  pub marked : (n : ℕ) → n < 256 → is_marked after n ≡ is_marked before n || is_in numbers n

-- the first of so many numbers from n on that does not pass the test
unfoldable pub least_by : (ℕ → Bool) → (left n : ℕ) → math.Option ℕ
least_by f zero n = none
least_by f (suc left) n = cond (f n) (least_by f left (suc n)) (some n)

abbrev pub free_of : Option ℕ → math.Option ℕ
free_of (Some n) = some n
free_of None = none

-- the free number of a block beside these entries and the announced pairs
abbrev pub free_for : List NodeEntry → Pairs → ℕ → math.Option ℕ
free_for es announced = free_number (collect pairs_in (map row_of es)) (pairs_of announced)

-- a block that is known to be full, if there is one: it has no free number
abbrev pub NoneFree : (ℕ → math.Option ℕ) → Option ℕ → Type 0
NoneFree free full = MatchOption full ⊤ (λ b. free b ≡ none)

abbrev pub renumbering_of : Option Offer → rules.Renumbering
renumbering_of None = finished
renumbering_of (Some o) = renumbers o.place o.tries (pair_in o.pair) o.new

-- what becomes of the pair at one place, as far as it is not left for a later one
unfoldable pub attempt_of : (ℕ → math.Option ℕ) → (place tries : ℕ) → Judged → rules.Renumbering
attempt_of free place tries j = cond j.good finished (cond (ltb tries max_tries) (offer place tries j.pair (free j.pair.block) finished) finished)
