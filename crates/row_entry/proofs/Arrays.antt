-- The rows of a ring: one place, a store, the length.
use Prim.Native.Nat.{ℕ, zero, suc, ◌+◌, ◌<◌, ◌≤◌, min}
use mathlib.Core.Path.{◌≡◌, refl, sym, ◌∙◌, ap}
use mathlib.Core.List.{List, [], ◌∷◌, map}
use native.Mathlib.Omega.{arith}
use native.Mathlib.Numerals.{add-one}
use lib.ListN.{length, get_or, set, drop, take, drop_of_length-le}
use Rattle.std.proofs.Math.Seq.{drop-cons}
use Rattle.laws.specs.Views.{firsts, firsts_length, firsts_here, firsts_past, firsts_at, firsts_set, firsts_min}
use Rattle.rules.specs.House.{max_units}
use Rattle.rules.specs.Picture.{Row}
use Rattle.row_entry.specs.declared.NodeEntry.{NodeEntry}
use Rattle.row_entry.specs.View.{row_of, rows_of}

-- the rows of a ring: the row at i, and those behind it; none past the end
module _ (es : List NodeEntry) (h : length es ≡ max_units) where
  pub rows_here : (k i : ℕ) (d : NodeEntry) → i < min k max_units → drop i (rows_of k es) ≡ row_of (get_or es i d) ∷ drop (i + 1) (rows_of k es)
  unfolding rows_of
  rows_here k i d l = firsts_here row_of k i d es (omega arith) (omega arith)

  pub rows_past : (k i : ℕ) → min k max_units ≤ i → drop i (rows_of k es) ≡ []
  unfolding rows_of
  rows_past k i l = ap (drop i) (sym (firsts_min row_of k max_units es (omega arith))) ∙ firsts_past row_of (min k max_units) i es l

  pub rows_length : (k : ℕ) → length (rows_of k es) ≡ min k max_units
  unfolding rows_of
  rows_length k = ap length (sym (firsts_min row_of k max_units es (omega arith))) ∙ firsts_length row_of (min k max_units) es (omega arith)

  pub rows_at : (k i : ℕ) (d : NodeEntry) (e : Row) → i < min k max_units → get_or (rows_of k es) i e ≡ row_of (get_or es i d)
  unfolding rows_of
  rows_at k i d e l = firsts_at row_of k i d e es (omega arith) (omega arith)

pub rows_set : (k i : ℕ) (e : NodeEntry) (es : List NodeEntry) → rows_of k (set es i e) ≡ set (rows_of k es) i (row_of e)
unfolding rows_of
rows_set k i e es = firsts_set row_of k i e es

-- the rows of a slice: what each of its entries stands for
pub rows_take : (k : ℕ) (es : List NodeEntry) → rows_of k es ≡ map row_of (take k es)
unfolding rows_of firsts
rows_take zero es = refl
rows_take (suc k) [] = refl
rows_take (suc k) (e ∷ es) = ap (λ (l : List Row). row_of e ∷ l) (rows_take k es)

-- the rows of a slice from i on: the one at i, and those behind it; none past the end
pub slice_here : (es : List NodeEntry) (i : ℕ) (d : NodeEntry) → i < length es → map row_of (drop i es) ≡ row_of (get_or es i d) ∷ map row_of (drop (i + 1) es)
slice_here es i d h = rw (add-one i) (ap (map row_of) (drop-cons es i d h))

pub slice_past : (es : List NodeEntry) (i : ℕ) → length es ≤ i → map row_of (drop i es) ≡ []
slice_past es i h = ap (map row_of) (drop_of_length-le es h)
