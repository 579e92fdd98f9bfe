-- Blocks, numbers and addresses side by side: one place, a store, the length.
use Prim.Native.Nat.{ℕ, zero, suc, ◌+◌, ◌<◌, ◌≤◌, min}
use mathlib.Core.Path.{◌≡◌, refl, sym, ◌∙◌, ap}
use mathlib.Core.List.{List, [], ◌∷◌, ◌++◌}
use native.Mathlib.Nat.{not-suc-le-zero, le_of_suc-le-suc}
use native.Mathlib.Omega.{arith}
use lib.ListN.{length, get_or, set, drop, drop_of_length-le}
use Rattle.laws.specs.Views.{firsts, firsts_length, firsts_here, firsts_push, firsts_min}
use Rattle.rules_unit.specs.Slave.{Known}
use Rattle.unit_answers.specs.View.{known_of, zip_known, known_from}

-- the shortest one ends all three
zip_short : (bs ns ads : List ℕ) → length (zip_known bs ns ads) ≡ min (length bs) (min (length ns) (length ads))
unfolding zip_known
zip_short [] ns ads = omega arith
zip_short (b ∷ bs) [] ads = omega arith
zip_short (b ∷ bs) (n ∷ ns) [] = omega arith
zip_short (b ∷ bs) (n ∷ ns) (a ∷ ads) = let e = zip_short bs ns ads in omega arith

-- the answer at a place, and a store to all three
zip_at : (i : ℕ) (bs ns ads : List ℕ) (d : Known) → i < length bs → i < length ns → i < length ads
    → get_or (zip_known bs ns ads) i d ≡ known_of (get_or bs i 0) (get_or ns i 0) (get_or ads i 0)
unfolding zip_known
zip_at i [] ns ads d h k l = absurd (not-suc-le-zero h)
zip_at i (b ∷ bs) [] ads d h k l = absurd (not-suc-le-zero k)
zip_at i (b ∷ bs) (n ∷ ns) [] d h k l = absurd (not-suc-le-zero l)
zip_at zero (b ∷ bs) (n ∷ ns) (a ∷ ads) d h k l = refl
zip_at (suc i) (b ∷ bs) (n ∷ ns) (a ∷ ads) d h k l = zip_at i bs ns ads d (le_of_suc-le-suc h) (le_of_suc-le-suc k) (le_of_suc-le-suc l)

zip_set : (i : ℕ) (bs ns ads : List ℕ) (b n a : ℕ) → zip_known (set bs i b) (set ns i n) (set ads i a) ≡ set (zip_known bs ns ads) i (known_of b n a)
unfolding zip_known
zip_set zero [] ns ads b n a = refl
zip_set (suc i) [] ns ads b n a = refl
zip_set zero (c ∷ bs) [] ads b n a = refl
zip_set (suc i) (c ∷ bs) [] ads b n a = refl
zip_set zero (c ∷ bs) (m ∷ ns) [] b n a = refl
zip_set (suc i) (c ∷ bs) (m ∷ ns) [] b n a = refl
zip_set zero (c ∷ bs) (m ∷ ns) (e ∷ ads) b n a = refl
zip_set (suc i) (c ∷ bs) (m ∷ ns) (e ∷ ads) b n a = ap (λ (l : List Known). known_of c m e ∷ l) (zip_set i bs ns ads b n a)

-- three arrays of one length
module _ (cap : ℕ) (bs ns ads : List ℕ) (h : length bs ≡ cap) (k : length ns ≡ cap) (l : length ads ≡ cap) where
  zip_length : length (zip_known bs ns ads) ≡ cap
  zip_length = omega (arith, zip_short bs ns ads)

  pub known_length : (c : ℕ) → length (known_from c bs ns ads) ≡ min c cap
  unfolding known_from
  known_length c =
      ap length (sym (firsts_min (λ (a : Known). a) c cap (zip_known bs ns ads) (omega (arith, zip_length))))
      ∙ firsts_length (λ (a : Known). a) (min c cap) (zip_known bs ns ads) (omega (arith, zip_length))

  -- the answer at i, and those behind it; none past the end
  pub known_here : (c i : ℕ) → i < min c cap
      → drop i (known_from c bs ns ads) ≡ known_of (get_or bs i 0) (get_or ns i 0) (get_or ads i 0) ∷ drop (i + 1) (known_from c bs ns ads)
  unfolding known_from
  known_here c i m =
      firsts_here (λ (a : Known). a) c i (known_of 0 0 0) (zip_known bs ns ads) (omega arith) (omega (arith, zip_length))
      ∙ ap (λ (a : Known). a ∷ drop (i + 1) (firsts (λ (a : Known). a) c (zip_known bs ns ads))) (zip_at i bs ns ads (known_of 0 0 0) (omega arith) (omega arith) (omega arith))

  pub known_past : (c i : ℕ) → min c cap ≤ i → drop i (known_from c bs ns ads) ≡ []
  known_past c i m = drop_of_length-le (known_from c bs ns ads) {i = i} (omega (arith, known_length c))

  -- one more answer
  pub known_push : (c b n a : ℕ) → c < cap
      → known_from (c + 1) (set bs c b) (set ns c n) (set ads c a) ≡ known_from c bs ns ads ++ known_of b n a ∷ []
  unfolding known_from
  known_push c b n a m =
      ap (firsts (λ (a : Known). a) (c + 1)) (zip_set c bs ns ads b n a)
      ∙ firsts_push (λ (a : Known). a) c (known_of b n a) (zip_known bs ns ads) (omega (arith, zip_length))
