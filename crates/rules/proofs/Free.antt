-- The free number of a block: the least that is not used, and none only where all are.
use Prim.Native.Nat.{ℕ, zero, suc, ◌+◌, ◌<◌, ◌≤◌}
use mathlib.Core.Path.{◌≡◌, refl, sym, ◌∙◌, ap, subst}
use mathlib.Core.Bool.{Bool, true, false, cond, ◌&&◌, ◌||◌}
use mathlib.Core.List.{List, [], ◌∷◌, ◌++◌}
use mathlib.Core.Logic.{◌⊎◌, inl, inr}
use mathlib.Core.Option.{none, some, some-injective}
use native.Mathlib.Omega.{arith}
use borrow.Author.Tests.{leb-true, leb-false}
use lib.Dec.{eqb, leb}
use Rattle.laws.specs.Lists.{any}
use Rattle.laws.specs.Bools.{clash, decide, or_left, or_right}
use Rattle.laws.specs.Alls.{any_append}
use Rattle.rules.specs.House.{min_number, max_number}
use Rattle.rules.specs.Picture.{Pair, same_pair, holds}
use Rattle.rules.specs.Renumber.{numbers_of, is_in, least_from, least_free, free_number}
use Rattle.rules.specs.Claims.{is_used, FreeNumber}

-- the first number, or one of those behind it
first_or_later : (P : ℕ → Type 0) (n m : ℕ) → n ≤ m → P n → (suc n ≤ m → P m) → P m
first_or_later P n m l here behind = go (decide (leb m n))
  where
    go : (leb m n ≡ true) ⊎ (leb m n ≡ false) → P m
    go (inl h) = let e : n ≡ m = omega (arith, leb-true m n h) in subst P e here
    go (inr h) = behind (leb-false m n h)

-- what is found is in range and not used, and all before it are used
least_some : (used : List ℕ) (more n m : ℕ) (b : Bool) → is_in used n ≡ b → least_from used more n b ≡ some m
    → (n ≤ m) × (m < n + more) × (is_in used m ≡ false) × ((k : ℕ) → n ≤ k → k < m → is_in used k ≡ true)
unfolding least_from
least_some used zero n m b e h = let z : ◌≡◌ {A = ℕ} 0 1 = cc in absurd (omega arith)
least_some used (suc more) n m false e h =
    let i : n ≡ m = some-injective n m h in
    (omega arith, omega arith, subst (λ (k : ℕ). is_in used k ≡ false) i e, λ k l g. absurd (omega arith))
least_some used (suc more) n m true e h =
    let r = least_some used more (suc n) m (is_in used (suc n)) refl h in
    (omega (arith, r.0), omega (arith, r.1), r.2, λ k l g. first_or_later (λ (j : ℕ). is_in used j ≡ true) n k l e (λ o. r.3 k o g))

-- where nothing is found all are used, and where all are used nothing is found
least_none : (used : List ℕ) (more n : ℕ) (b : Bool) → is_in used n ≡ b → least_from used more n b ≡ none
    → (k : ℕ) → n ≤ k → k < n + more → is_in used k ≡ true
unfolding least_from
least_none used zero n b e h k l g = absurd (omega arith)
least_none used (suc more) n false e h k l g = let z : ◌≡◌ {A = ℕ} 0 1 = cc in absurd (omega arith)
least_none used (suc more) n true e h k l g =
    first_or_later (λ (j : ℕ). is_in used j ≡ true) n k l e (λ o. least_none used more (suc n) (is_in used (suc n)) refl h k o (omega arith))

none_least : (used : List ℕ) (more n : ℕ) (b : Bool) → is_in used n ≡ b → ((k : ℕ) → n ≤ k → k < n + more → is_in used k ≡ true)
    → least_from used more n b ≡ none
unfolding least_from
none_least used zero n b e f = refl
none_least used (suc more) n false e f = clash (f n (omega arith) (omega arith)) e
none_least used (suc more) n true e f =
    none_least used more (suc n) (is_in used (suc n)) refl (λ k l g. f k (omega arith) (omega arith))

-- the numbers that stand with a block are those whose pair is held
numbers_held : (b m : ℕ) (ps : List Pair) → is_in (numbers_of b ps) m ≡ holds ps (record { block = b; number = m })
unfolding is_in numbers_of holds any same_pair
numbers_held b m [] = refl
numbers_held b m (a ∷ ps) = go (eqb b a.block) (numbers_held b m ps)
  where
    go : (t : Bool) → is_in (numbers_of b ps) m ≡ holds ps (record { block = b; number = m })
        → is_in (cond t (a.number ∷ numbers_of b ps) (numbers_of b ps)) m ≡ (t && eqb m a.number || holds ps (record { block = b; number = m }))
    go true e = ap (λ (t : Bool). eqb m a.number || t) e
    go false e = e

used_held : (elsewhere announced : List Pair) (b m : ℕ) → is_in (numbers_of b elsewhere ++ numbers_of b announced) m ≡ is_used elsewhere announced b m
unfolding is_in
used_held elsewhere announced b m =
    any_append (eqb m) (numbers_of b elsewhere) (numbers_of b announced) ∙ (λ i. numbers_held b m elsewhere i || numbers_held b m announced i)

pub free_numbers : (elsewhere announced : List Pair) (b : ℕ) → FreeNumber elsewhere announced b
unfolding free_number least_free
free_numbers elsewhere announced b =
    record {
      least = λ n h.
          let r = least_some _ _ _ n _ refl h in
          (omega (arith, r.0), omega (arith, r.1), sym (held n) ∙ r.2, λ m l k. sym (held m) ∙ r.3 m (omega arith) k);
      none_left = λ h m l k. sym (held m) ∙ least_none _ _ _ _ refl h m (omega arith) (omega arith);
      all_used = λ f. none_least _ _ _ _ refl (λ k l g. held k ∙ f k (omega arith) (omega arith));
    }
  where
    held : (m : ℕ) → is_in (numbers_of b elsewhere ++ numbers_of b announced) m ≡ is_used elsewhere announced b m
    held m = used_held elsewhere announced b m

-- the same of a number that is offered, by the names of its limits
pub record Free (elsewhere announced : List Pair) (b m : ℕ) : Type 0 where
  pub low : min_number ≤ m
  pub high : m ≤ max_number
  pub there : holds elsewhere (record { block = b; number = m }) ≡ false
  pub here : holds announced (record { block = b; number = m }) ≡ false
  pub least : (k : ℕ) → min_number ≤ k → k < m → is_used elsewhere announced b k ≡ true

pub free_number_lem : (elsewhere announced : List Pair) (b m : ℕ) → free_number elsewhere announced b ≡ some m → Free elsewhere announced b m
free_number_lem elsewhere announced b m h =
    let r = (free_numbers elsewhere announced b).least m h in
    record { low = r.0; high = r.1; there = or_left _ _ r.2; here = or_right (holds elsewhere _) _ r.2; least = r.3 }
