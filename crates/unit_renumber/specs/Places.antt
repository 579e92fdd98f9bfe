-- Where the first pair of a kind stands in a list.
use Rattle.std.specs.Prelude.{ℕ, suc, cond, List, [], ◌∷◌}
use Rattle.rules.specs.Picture.{Pair, same_pair}

-- the length of the list where there is none
unfoldable pub first_at : Pair → List Pair → ℕ
first_at a [] = 0
first_at a (b ∷ bs) = cond (same_pair a b) 0 (suc (first_at a bs))
