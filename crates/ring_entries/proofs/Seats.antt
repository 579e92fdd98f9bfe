-- The row of a position between the others: as one row of the list, stored to, taken out, or counted with the others.
use Prim.Native.Nat.{ℕ, zero, suc, ◌<◌}
use mathlib.Core.Path.{◌≡◌, refl, sym, ◌∙◌, ap}
use mathlib.Core.Bool.{Bool, false, cond, ◌||◌}
use mathlib.Core.List.{List, [], ◌∷◌, ◌++◌, map}
use native.Mathlib.Nat.{not-suc-le-zero, le_of_suc-le-suc}
use native.Mathlib.Omega.{arith}
use lib.ListN.{length, get_or, set, take, drop}
use Rattle.laws.specs.Lists.{any, collect}
use Rattle.rules.specs.Picture.{Row, no_row, kept_by, pairs_of, pairs_in, Seat, seat_at, others, put}
use Rattle.rules.specs.Step.{on_counted}
use Rattle.row_entry.specs.declared.NodeEntry.{NodeEntry}
use Rattle.row_entry.specs.View.{row_of}
use Rattle.std.proofs.lemmas.List.{map-set, get_or-map, length-map}

module _ {A : Type 0} where
  put_at : (i : ℕ) (a : A) (xs : List A) → i < length xs → take i xs ++ a ∷ drop (suc i) xs ≡ set xs i a
  put_at i a [] h = absurd (not-suc-le-zero h)
  put_at zero a (x ∷ xs) h = refl
  put_at (suc i) a (x ∷ xs) h = ap (λ (l : List A). x ∷ l) (put_at i a xs (le_of_suc-le-suc h))

  any_out : (f : A → Bool) (i : ℕ) (a : A) (xs : List A) → i < length xs → f a ≡ false → any f (take i xs ++ drop (suc i) xs) ≡ any f (set xs i a)
  unfolding any
  any_out f i a [] h e = absurd (not-suc-le-zero h)
  any_out f zero a (x ∷ xs) h e = sym (ap (λ (b : Bool). b || any f xs) e)
  any_out f (suc i) a (x ∷ xs) h e = ap (λ (b : Bool). f x || b) (any_out f i a xs (le_of_suc-le-suc h) e)

  any_but : (f : A → Bool) (i : ℕ) (d : A) (xs : List A) → i < length xs → f (get_or xs i d) ≡ false → any f (take i xs ++ drop (suc i) xs) ≡ any f xs
  unfolding any
  any_but f i d [] h e = absurd (not-suc-le-zero h)
  any_but f zero d (x ∷ xs) h e = sym (ap (λ (b : Bool). b || any f xs) e)
  any_but f (suc i) d (x ∷ xs) h e = ap (λ (b : Bool). f x || b) (any_but f i d xs (le_of_suc-le-suc h) e)

  map_around : (g : A → A) (i : ℕ) (a : A) (xs : List A) → i < length xs → map g (take i xs) ++ a ∷ map g (drop (suc i) xs) ≡ set (map g xs) i a
  map_around g i a [] h = absurd (not-suc-le-zero h)
  map_around g zero a (x ∷ xs) h = refl
  map_around g (suc i) a (x ∷ xs) h = ap (λ (l : List A). g x ∷ l) (map_around g i a xs (le_of_suc-le-suc h))

module _ {A B : Type 0} where
  collect_out : (f : A → List B) (i : ℕ) (a : A) (xs : List A) → i < length xs → f a ≡ [] → collect f (take i xs ++ drop (suc i) xs) ≡ collect f (set xs i a)
  unfolding collect
  collect_out f i a [] h e = absurd (not-suc-le-zero h)
  collect_out f zero a (x ∷ xs) h e = sym (ap (λ (l : List B). l ++ collect f xs) e)
  collect_out f (suc i) a (x ∷ xs) h e = ap (λ (l : List B). f x ++ l) (collect_out f i a xs (le_of_suc-le-suc h) e)

module _ (rs : List Row) (i : ℕ) {x : ℕ} (e : x ≡ suc i) (l : i < length rs) where
  seat : seat_at rs x ≡ record { front = take i rs; row = get_or rs i no_row; back = drop (suc i) rs }
  unfolding seat_at
  seat = ap (seat_at rs) e

  pub seat_row : (seat_at rs x).row ≡ get_or rs i no_row
  seat_row = ap (λ (s : Seat). s.row) seat

  pub seat_put : (r : Row) → put (seat_at rs x) r ≡ set rs i r
  unfolding put
  seat_put r = ap (λ (s : Seat). put s r) seat ∙ put_at i r rs l

  -- with a row in its place that nothing is true of, and that keeps nothing
  pub seat_any : (f : Row → Bool) (n : Row) → f n ≡ false → any f (others (seat_at rs x)) ≡ any f (set rs i n)
  unfolding others
  seat_any f n h = ap (λ (s : Seat). any f (others s)) seat ∙ any_out f i n rs l h

  -- with the row itself, where the test fails for it
  pub seat_but : (f : Row → Bool) → f (seat_at rs x).row ≡ false → any f (others (seat_at rs x)) ≡ any f rs
  unfolding others
  seat_but f h = ap (λ (s : Seat). any f (others s)) seat ∙ any_but f i no_row rs l (ap f (sym seat_row) ∙ h)

  pub seat_pairs : (n : Row) → pairs_in n ≡ [] → collect pairs_in (others (seat_at rs x)) ≡ collect pairs_in (set rs i n)
  unfolding others
  seat_pairs n h = ap (λ (s : Seat). collect pairs_in (others s)) seat ∙ collect_out pairs_in i n rs l h

  pub seat_counted : (counts : Row → Bool) (f : Row → Row) → on_counted counts f (seat_at rs x) ≡ set (map (λ (r : Row). cond (counts r) (f r) r) rs) i (f (get_or rs i no_row))
  unfolding on_counted
  seat_counted counts f = ap (on_counted counts f) seat ∙ map_around (λ (r : Row). cond (counts r) (f r) r) i (f (get_or rs i no_row)) rs l

-- the pairs of the others are those of the entries with none in the seat
pub pairs_beside : (es : List NodeEntry) (i : ℕ) → i < length es → (b : NodeEntry) → row_of b ≡ no_row
    → collect pairs_in (map row_of (set es i b)) ≡ collect pairs_in (others (seat_at (map row_of es) (suc i)))
unfolding pairs_in no_row pairs_of kept_by
pairs_beside es i l b none =
    ap (collect pairs_in) (map-set row_of es i b ∙ ap (set (map row_of es) i) none)
    ∙ sym (seat_pairs (map row_of es) i refl (omega (arith, l, length-map es row_of)) no_row refl)

-- the row in the seat is the entry's
pub seat_own : (i : ℕ) (es : List NodeEntry) → i < length es → (d : NodeEntry) → row_of (get_or es i d) ≡ (seat_at (map row_of es) (suc i)).row
seat_own i es l d = sym (seat_row (map row_of es) i refl (omega (arith, l, length-map es row_of)) ∙ get_or-map row_of es i d no_row l)
