-- What has changed at a position: the line of the position itself, the pairs gone and the pairs new.
use Rattle.std.specs.Prelude.{ℕ, cond, List, [], ◌∷◌, eqb, Option, None, Some}
use Rattle.rules.specs.Picture.{Pair}
use Rattle.rules.specs.Ending.{missing}
use Rattle.rules_diff.specs.Differences.{Seen, absent, present, Line, position_gone, position_new, address_changed}
use Rattle.diff_changes.specs.declared.LineKind.{LineKind}
use Rattle.diff_changes.specs.declared.LineKind.TheVariants as kinds

-- the number of a kind of line, and 0 for none
abbrev pub number_of : LineKind → ℕ
number_of kinds.PositionGone = 1
number_of kinds.PositionNew = 2
number_of kinds.AddressChanged = 3
number_of kinds.PairGone = 4
number_of kinds.PairNew = 5

abbrev pub told : Option LineKind → ℕ
told None = 0
told (Some k) = number_of k

unfoldable pub seen_pairs : Seen → List Pair
seen_pairs absent = []
seen_pairs (present a ps) = ps

unfoldable pub seen_address : Seen → ℕ
seen_address absent = 0
seen_address (present a ps) = a

-- the kind of the position's own line; 0 where there is none
unfoldable pub head_kind : (before after : Seen) → ℕ
head_kind absent absent = 0
head_kind absent (present b qs) = 2
head_kind (present a ps) absent = 1
head_kind (present a ps) (present b qs) = cond (eqb a b) 0 3

unfoldable pub head_lines : (kind position address : ℕ) → List Line
head_lines k x a =
    cond (eqb k 1) (position_gone x ∷ []) (cond (eqb k 2) (position_new x a ∷ []) (cond (eqb k 3) (address_changed x a ∷ []) []))

unfoldable pub gone_in : (before after : Seen) → List Pair
gone_in s absent = []
gone_in s (present b qs) = missing (seen_pairs s) qs

unfoldable pub new_in : (before after : Seen) → List Pair
new_in s t = missing (seen_pairs t) (seen_pairs s)
