-- Marks beside pairs: which another row keeps, and which are good.
use Rattle.std.specs.Prelude.{Bool, not, ◌&&◌, ◌||◌, List, [], ◌∷◌, leb}
use Rattle.rules.specs.House.{min_number, max_number}
use Rattle.rules.specs.Picture.{Pair, holds}
use Rattle.rules.specs.Renumber.{Judged}

-- marks, and more marks on the first of them
unfoldable pub or_each : (marks more : List Bool) → List Bool
or_each [] gs = []
or_each (h ∷ hs) [] = h ∷ hs
or_each (h ∷ hs) (g ∷ gs) = (h || g) ∷ or_each hs gs

-- the rules' judging, where a mark says that another row keeps the pair
unfoldable pub is_good_marked : Bool → (earlier : List Pair) → Pair → Bool
is_good_marked held earlier a = leb min_number a.number && leb a.number max_number && not held && not (holds earlier a)

unfoldable pub judge_marked : (held : List Bool) → (earlier : List Pair) → List Pair → List Judged
judge_marked hs earlier [] = []
judge_marked [] earlier (a ∷ rest) = []
judge_marked (h ∷ hs) earlier (a ∷ rest) = record { pair = a; good = is_good_marked h earlier a } ∷ judge_marked hs (a ∷ earlier) rest

-- pairs, and a mark for each good one
unfoldable pub judged_of : List Pair → List Bool → List Judged
judged_of [] gs = []
judged_of (a ∷ rest) [] = []
judged_of (a ∷ rest) (g ∷ gs) = record { pair = a; good = g } ∷ judged_of rest gs
