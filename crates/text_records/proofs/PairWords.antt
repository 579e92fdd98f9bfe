-- Bytes as pairs, one by one: those that are left.
use Prim.Native.Nat.{ℕ, ◌<◌}
use mathlib.Core.Path.{◌≡◌, refl, ap}
use mathlib.Core.List.{List, [], ◌∷◌, ◌++◌}
use native.Mathlib.Omega.{arith}
use lib.ListN.{length, get_or}
use Rattle.text_records.specs.Fields.{pair_word, pair_words}

-- the pair at hand, and those behind it
pub pairs_on : {bytes : List ℕ} (two rest : List ℕ) → bytes ≡ two ++ rest → length two ≡ 2
    → pair_words bytes ≡ pair_word (get_or two 0 0) (get_or two 1 0) ++ pair_words rest
unfolding pair_words
pairs_on [] rest e l = absurd (omega (arith, l))
pairs_on (b ∷ []) rest e l = absurd (omega (arith, l))
pairs_on (b ∷ n ∷ []) rest e l = ap pair_words e
pairs_on (b ∷ n ∷ m ∷ more) rest e l = absurd (omega (arith, l))

-- none is left
pub pairs_end : (rest : List ℕ) → length rest < 2 → pair_words rest ≡ []
unfolding pair_words
pairs_end [] l = refl
pairs_end (b ∷ []) l = refl
pairs_end (b ∷ n ∷ rest) l = absurd (omega (arith, l))
