-- What the kept answers stand for. Total: whatever the numbers are, they stand for something.
use Rattle.std.specs.Prelude.{ℕ, List, [], ◌∷◌}
use Rattle.laws.specs.Views.{firsts}
use Rattle.rules_unit.specs.Slave.{Known}
use Rattle.wire_pairs.specs.View.{pair_of, pair_in}
use Rattle.unit_answers.specs.declared.Known as code
use Rattle.unit_answers.specs.declared.DecentralRegistry.{DecentralRegistry}

unfoldable pub known_of : (block number address : ℕ) → Known
known_of b n a = record { pair = pair_of b n; address = a }

unfoldable pub known_in : code.Known → Known
known_in k = record { pair = pair_in k.pair; address = k.address.0 }

-- blocks, numbers and addresses side by side
unfoldable pub zip_known : (blocks numbers addresses : List ℕ) → List Known
zip_known [] ns ads = []
zip_known (b ∷ bs) [] ads = []
zip_known (b ∷ bs) (n ∷ ns) [] = []
zip_known (b ∷ bs) (n ∷ ns) (a ∷ ads) = known_of b n a ∷ zip_known bs ns ads

-- the first so many answers of three arrays
unfoldable pub known_from : ℕ → (blocks numbers addresses : List ℕ) → List Known
known_from k bs ns ads = firsts (λ (a : Known). a) k (zip_known bs ns ads)

unfoldable pub answers_of : DecentralRegistry → List Known
answers_of d = known_from d.count d.blocks d.numbers d.addresses
