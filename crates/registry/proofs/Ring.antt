-- The entries of the ring: the first of the array, as many as there are units.
use Prim.Native.Nat.{ℕ, zero, suc, ◌≤◌, min}
use mathlib.Core.Path.{◌≡◌, refl, sym, ◌∙◌, ap, subst}
use mathlib.Core.List.{List, [], ◌∷◌, ◌++◌, map}
use native.Mathlib.Omega.{arith}
use lib.ListN.{length, length-append, take, drop}
use Rattle.std.proofs.lemmas.List.{length-take-le, length-drop, take-append-le, take-append-drop}
use Rattle.std.proofs.Common.{take_all}
use Rattle.laws.specs.Alls.{All, all_append, all_left, all_right}
use Rattle.laws.specs.Views.{firsts, firsts_min}
use Rattle.rules.specs.House.{max_units}
use Rattle.row_entry.specs.declared.NodeEntry.{NodeEntry}
use Rattle.row_entry.specs.Marks.{Marked}
use Rattle.row_entry.specs.View.{row_of, rows_of}
use Rattle.row_entry.proofs.Arrays.{rows_take}

module _ (k : ℕ) (es : List NodeEntry) (full : length es ≡ max_units) {n : ℕ} (h : n ≡ min k max_units) where
  pub ring_rows : map row_of (take n es) ≡ rows_of k es
  unfolding rows_of
  ring_rows = sym (rows_take n es) ∙ ap (λ (i : ℕ). rows_of i es) h ∙ firsts_min row_of k max_units es (omega arith)

  pub ring_length : length (take n es) ≡ n
  ring_length = length-take-le n es (omega arith)

  pub ring_marks : All Marked es → All Marked (take n es)
  ring_marks m = all_left (take n es) (drop n es) (subst (All Marked) (sym (take-append-drop n es)) m)

-- the entries of the ring have become others
module _ (k : ℕ) (es : List NodeEntry) (full : length es ≡ max_units) {n : ℕ} (h : n ≡ min k max_units) (xs : List NodeEntry) (l : length xs ≡ n) where
  pub changed_full : length (xs ++ drop n es) ≡ max_units
  changed_full = omega (arith, length-append xs (drop n es), length-drop n es)

  pub changed_rows : rows_of k (xs ++ drop n es) ≡ map row_of xs
  changed_rows =
      let m : n ≤ length xs = omega arith in
      sym (ring_rows k (xs ++ drop n es) changed_full h) ∙ ap (map row_of) (take-append-le n xs (drop n es) m ∙ take_all n xs (omega arith))

  pub changed_marks : All Marked es → All Marked xs → All Marked (xs ++ drop n es)
  changed_marks m x = all_append x (all_right (take n es) (drop n es) (subst (All Marked) (sym (take-append-drop n es)) m))

-- the entries of the ring as they are
first_ones : (k : ℕ) (es : List NodeEntry) → firsts (λ (e : NodeEntry). e) k es ≡ take k es
unfolding firsts
first_ones zero es = refl
first_ones (suc k) [] = refl
first_ones (suc k) (e ∷ es) = ap (λ (l : List NodeEntry). e ∷ l) (first_ones k es)

pub ring_firsts : (k : ℕ) (es : List NodeEntry) → length es ≡ max_units → take (min k max_units) es ≡ firsts (λ (e : NodeEntry). e) k es
ring_firsts k es full = sym (first_ones (min k max_units) es) ∙ firsts_min (λ (e : NodeEntry). e) k max_units es (omega arith)

-- a ring has no entries behind those that it can have
pub ring_whole : (k : ℕ) (es : List NodeEntry) → length es ≡ min k max_units → take max_units es ≡ es
ring_whole k es h = take_all max_units es (omega (arith, h))
