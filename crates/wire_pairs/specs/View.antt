-- What the code's pairs stand for. Total: whatever the numbers are, they stand for something.
use Rattle.std.specs.Prelude.{ℕ, List, [], ◌∷◌}
use Rattle.laws.specs.Views.{firsts}
use Rattle.rules.specs.Picture.{Pair}
use Rattle.wire_pairs.specs.declared.Pair as code
use Rattle.wire_pairs.specs.declared.Pairs.{Pairs}

unfoldable pub pair_of : (block number : ℕ) → Pair
pair_of b n = record { block = b; number = n }

unfoldable pub pair_in : code.Pair → Pair
pair_in p = pair_of p.block p.number

-- blocks and numbers side by side
unfoldable pub zip_pairs : (blocks numbers : List ℕ) → List Pair
zip_pairs [] ns = []
zip_pairs (b ∷ bs) [] = []
zip_pairs (b ∷ bs) (n ∷ ns) = pair_of b n ∷ zip_pairs bs ns

-- the first so many pairs of two arrays
unfoldable pub pairs_from : ℕ → (blocks numbers : List ℕ) → List Pair
pairs_from k bs ns = firsts (λ (a : Pair). a) k (zip_pairs bs ns)

unfoldable pub pairs_of : Pairs → List Pair
pairs_of p = pairs_from p.count p.blocks p.numbers
