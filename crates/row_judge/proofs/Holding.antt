-- Marks of pairs that are held: one pair at a time, and one entry at a time.
use Rattle.laws.specs.Bools.{or_assoc, or_none}
use Prim.Native.Nat.{ℕ, zero, suc, ◌+◌, ◌<◌, ◌≤◌}
use mathlib.Core.Path.{◌≡◌, refl, sym, ◌∙◌, ap}
use mathlib.Core.Bool.{Bool, ◌||◌}
use mathlib.Core.List.{List, [], ◌∷◌, ◌++◌, map}
use native.Mathlib.Nat.{not-suc-le-zero, le_of_suc-le-suc}
use native.Mathlib.Numerals.{add-one}
use lib.ListN.{length, get_or, set, drop}
use lib.Seq.{drop-cons}
use Rattle.laws.specs.Lists.{any, collect}
use Rattle.laws.specs.Alls.{any_append}
use Rattle.rules.specs.Picture.{Pair, Row, same_pair, holds, pairs_in}
use Rattle.row_judge.specs.Marks.{or_each}

-- marks, and more marks on those from j on
unfoldable pub or_from : ℕ → (marks more : List Bool) → List Bool
or_from zero hs gs = or_each hs gs
or_from (suc j) [] gs = []
or_from (suc j) (h ∷ hs) [] = h ∷ hs
or_from (suc j) (h ∷ hs) (g ∷ gs) = h ∷ or_from j hs gs

-- the pair that stands in front of those behind j is the one at j
pub pair_here : (j : ℕ) (d : Pair) (ps : List Pair) {a : Pair} {rest : List Pair} → j < length ps → drop j ps ≡ a ∷ rest → get_or ps j d ≡ a
pair_here j d ps l e = ap (λ (xs : List Pair). get_or xs 0 d) (sym (drop-cons ps j d l) ∙ e)

module _ (f : Pair → Bool) where
  turn : (j : ℕ) (d : Bool) (e : Pair) (hs : List Bool) (ps : List Pair) → j < length ps
      → or_from (suc j) (set hs j (get_or hs j d || f (get_or ps j e))) (map f ps) ≡ or_from j hs (map f ps)
  unfolding or_from or_each
  turn zero d e [] ps k = refl
  turn (suc j) d e [] ps k = refl
  turn zero d e (x ∷ hs) [] k = absurd (not-suc-le-zero k)
  turn (suc j) d e (x ∷ hs) [] k = absurd (not-suc-le-zero k)
  turn zero d e (x ∷ hs) (p ∷ ps) k = refl
  turn (suc j) d e (x ∷ hs) (p ∷ ps) k = ap (λ (l : List Bool). x ∷ l) (turn j d e hs ps (le_of_suc-le-suc k))

  pub or_on : (j : ℕ) (d : Bool) (hs : List Bool) (ps : List Pair) {a : Pair} {b : Bool} {whole : List Bool} → j < length ps → drop j ps ≡ a ∷ drop (j + 1) ps
      → b ≡ get_or hs j d || f a → or_from j hs (map f ps) ≡ whole → or_from (j + 1) (set hs j b) (map f ps) ≡ whole
  or_on j d hs ps {a} k e i w =
      ap (λ (b : Bool). or_from (j + 1) (set hs j b) (map f ps)) (i ∙ ap (λ (p : Pair). get_or hs j d || f p) (sym (pair_here j a ps k e)))
      ∙ rw (add-one j) (turn j d a hs ps k) ∙ w

  end : (j : ℕ) (hs : List Bool) (ps : List Pair) → length ps ≤ j → or_from j hs (map f ps) ≡ hs
  unfolding or_from or_each
  end zero [] ps h = refl
  end zero (x ∷ hs) [] h = refl
  end zero (x ∷ hs) (p ∷ ps) h = absurd (not-suc-le-zero h)
  end (suc j) [] ps h = refl
  end (suc j) (x ∷ hs) [] h = refl
  end (suc j) (x ∷ hs) (p ∷ ps) h = ap (λ (l : List Bool). x ∷ l) (end j hs ps (le_of_suc-le-suc h))

  pub or_end : (j : ℕ) (hs : List Bool) (ps : List Pair) {whole : List Bool} → length ps ≤ j → or_from j hs (map f ps) ≡ whole → hs ≡ whole
  or_end j hs ps h w = sym (end j hs ps h) ∙ w

-- two lists of pairs are one behind the other
both : (hs : List Bool) (xs ys ps : List Pair) → or_each (or_each hs (map (holds xs) ps)) (map (holds ys) ps) ≡ or_each hs (map (holds (xs ++ ys)) ps)
unfolding or_each holds
both [] xs ys ps = refl
both (h ∷ hs) xs ys [] = refl
both (h ∷ hs) xs ys (p ∷ ps) = (λ i. (or_assoc h (holds xs p) (holds ys p) ∙ ap (λ (b : Bool). h || b) (sym (any_append (same_pair p) xs ys))) i ∷ both hs xs ys ps i)

none_held : (hs : List Bool) (ps : List Pair) → or_each hs (map (holds []) ps) ≡ hs
unfolding or_each holds any
none_held [] ps = refl
none_held (h ∷ hs) [] = refl
none_held (h ∷ hs) (p ∷ ps) = (λ i. or_none h i ∷ none_held hs ps i)

module _ (hs : List Bool) (ps : List Pair) where
  pub held_on : {next whole : List Bool} {kept : List Pair} {rows rest : List Row} {r : Row} → rows ≡ r ∷ rest → kept ≡ pairs_in r
      → next ≡ or_each hs (map (holds kept) ps) → or_each hs (map (holds (collect pairs_in rows)) ps) ≡ whole
      → or_each next (map (holds (collect pairs_in rest)) ps) ≡ whole
  unfolding collect
  held_on {rest = rest} {r = r} e k n w =
      (λ i. or_each ((n ∙ (λ j. or_each hs (map (holds (k j)) ps))) i) (map (holds (collect pairs_in rest)) ps))
      ∙ both hs (pairs_in r) (collect pairs_in rest) ps ∙ (λ i. or_each hs (map (holds (collect pairs_in (sym e i))) ps)) ∙ w

  pub held_end : {whole : List Bool} {rows : List Row} → rows ≡ [] → or_each hs (map (holds (collect pairs_in rows)) ps) ≡ whole → hs ≡ whole
  unfolding collect
  held_end e w = sym (none_held hs ps) ∙ (λ i. or_each hs (map (holds (collect pairs_in (sym e i))) ps)) ∙ w
