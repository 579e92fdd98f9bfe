-- The pairs of an announcement: which are good, and which one is renumbered to what.
use Rattle.std.specs.Prelude.{ℕ, zero, suc, ◌-◌, Bool, true, false, cond, not, ◌&&◌, List, [], ◌∷◌, ◌++◌, eqb, leb, ltb, drop}
use Rattle.std.proofs.Math.Option.{Option, none, some}
use Rattle.laws.specs.Lists.{any}
use Rattle.rules.specs.House.{min_number, max_number, max_tries}
use Rattle.rules.specs.Picture.{Pair, holds, Status, WAITING, SETTING, LISTED, SILENT, IGNORED}

-- an announced pair, and whether it is good
pub record Judged : Type 0 where
  pub pair : Pair
  pub good : Bool

-- "A pair is good if its number is 01 to FE and neither another row's kept pairs nor an earlier pair of this answer holds it."
unfoldable pub is_good : (elsewhere earlier : List Pair) → Pair → Bool
is_good elsewhere earlier a = leb min_number a.number && leb a.number max_number && not (holds elsewhere a) && not (holds earlier a)

-- "the pairs are judged in order"
unfoldable pub judge : (elsewhere earlier : List Pair) → List Pair → List Judged
judge elsewhere earlier [] = []
judge elsewhere earlier (a ∷ rest) = record { pair = a; good = is_good elsewhere earlier a } ∷ judge elsewhere (a ∷ earlier) rest

-- "The row keeps exactly the good pairs"
unfoldable pub goods : List Judged → List Pair
goods [] = []
goods (j ∷ js) = cond j.good (j.pair ∷ goods js) (goods js)

-- the numbers that stand with this block
unfoldable pub numbers_of : ℕ → List Pair → List ℕ
numbers_of b [] = []
numbers_of b (a ∷ rest) = cond (eqb b a.block) (a.number ∷ numbers_of b rest) (numbers_of b rest)

unfoldable pub is_in : List ℕ → ℕ → Bool
is_in ns n = any (eqb n) ns

-- the first of so many numbers from n on that is not used; the last argument says whether n is
unfoldable pub least_from : (used : List ℕ) → (left n : ℕ) → Bool → Option ℕ
least_from used zero n b = none
least_from used (suc left) n false = some n
least_from used (suc left) n true = least_from used left (suc n) (is_in used (suc n))

-- the least of 01 to FE that is not used
unfoldable pub least_free : List ℕ → Option ℕ
least_free used = least_from used (suc max_number - min_number) min_number (is_in used min_number)

-- "Free number: the least of 01 to FE that no other row keeps for that block and that stands with that block nowhere in this answer."
unfoldable pub free_number : (elsewhere announced : List Pair) → ℕ → Option ℕ
free_number elsewhere announced b = least_free (numbers_of b elsewhere ++ numbers_of b announced)

-- what is left to renumber: nothing, or one pair, with the place and the tries that the row then has
pub data Renumbering : Type 0 where
  finished : Renumbering
  renumbers : (place tries : ℕ) (pair : Pair) (new : ℕ) → Renumbering

-- what becomes of a bad pair that a try is left for
unfoldable pub offer : (place tries : ℕ) → Pair → Option ℕ → Renumbering → Renumbering
offer place tries a none later = later
offer place tries a (some n) later = renumbers place (suc tries) a n

-- "From the place on: a good pair, advance, tries 0; a bad pair with tries below 3 (house) and a free number, SET it, tries +1, status
-- SETTING, stop; otherwise advance, tries 0. Past the end: LISTED."
unfoldable pub renumber_from : (ℕ → Option ℕ) → (place tries : ℕ) → List Judged → Renumbering
renumber_from free place tries [] = finished
renumber_from free place tries (j ∷ js) =
    let later = renumber_from free (suc place) 0 js in
    cond j.good later (cond (ltb tries max_tries) (offer place tries j.pair (free j.pair.block) later) later)

unfoldable pub renumber : (ℕ → Option ℕ) → (place tries : ℕ) → List Judged → Renumbering
renumber free place tries js = renumber_from free place tries (drop place js)

-- "A row has a place and a try count, both 0 unless it was SETTING."
unfoldable pub place_of : Status → ℕ
place_of WAITING = 0
place_of (SETTING a ps place tries) = place
place_of (LISTED a ps) = 0
place_of SILENT = 0
place_of (IGNORED a) = 0

unfoldable pub tries_of : Status → ℕ
tries_of WAITING = 0
tries_of (SETTING a ps place tries) = tries
tries_of (LISTED a ps) = 0
tries_of SILENT = 0
tries_of (IGNORED a) = 0
