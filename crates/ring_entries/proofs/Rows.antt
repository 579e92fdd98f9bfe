-- Entries and their rows: a test of some, a count, and every one changed.
use Rattle.std.specs.List.{list_any, count_by}
use Rattle.std.proofs.lemmas.List.Recursion.{is_count_by}
use Prim.Native.Nat.{ℕ, zero, suc, ◌+◌, ◌<◌}
use mathlib.Core.Path.{◌≡◌, refl, sym, ap, subst}
use mathlib.Core.Bool.{Bool, true, false, cond, ◌||◌}
use mathlib.Core.List.{List, [], ◌∷◌, map}
use native.Mathlib.Nat.{not-suc-le-zero, le_of_suc-le-suc}
use native.Mathlib.Omega.{arith}
use lib.ListN.{length, get_or, set, take, drop}
use Rattle.laws.specs.Lists.{any, select}
use Rattle.laws.specs.Alls.{All, all_each, Each, each_nil, each_cons, each_length}
use Rattle.rules.specs.Picture.{Row}
use Rattle.row_entry.specs.declared.NodeEntry.{NodeEntry}
use Rattle.row_entry.specs.View.{row_of}
use Rattle.row_entry.specs.Marks.{Marked}

-- a test of some entry is one of some row
pub any_rows : (f : Row → Bool) (es : List NodeEntry) → list_any (λ (e : NodeEntry). f (row_of e)) es ≡ any f (map row_of es)
unfolding any
any_rows f [] = refl
any_rows f (e ∷ es) = ap (λ (b : Bool). f (row_of e) || b) (any_rows f es)

-- as many entries pass a test as rows are selected by it
pub count_rows : (f : Row → Bool) (es : List NodeEntry) → count_by (λ (e : NodeEntry). f (row_of e)) es ≡ length (select f (map row_of es))
unfolding select
count_rows f es =
    sym (is_count_by (λ (xs : List NodeEntry). length (select f (map row_of xs))) (λ (e : NodeEntry). f (row_of e)) refl (λ e xs. go (f (row_of e)) e xs) es)
  where
    go : (b : Bool) (e : NodeEntry) (xs : List NodeEntry)
        → length (cond b (row_of e ∷ select f (map row_of xs)) (select f (map row_of xs)))
        ≡ cond b (1 + length (select f (map row_of xs))) (length (select f (map row_of xs)))
    go true e xs = omega arith
    go false e xs = refl

module _ {A : Type 0} {R : A → A → Type 0} where
  -- one more element has become what it is to become
  pub each_more : (i : ℕ) (d y : A) (xs ys : List A) → i < length ys → Each R (take i xs) (take i ys) → drop i ys ≡ drop i xs → R (get_or ys i d) y
      → Each R (take (suc i) xs) (take (suc i) (set ys i y)) × (drop (suc i) (set ys i y) ≡ drop (suc i) xs)
  each_more i d y xs [] l h e r = absurd (not-suc-le-zero l)
  each_more zero d y [] (b ∷ ys) l h e r = cc
  each_more zero d y (x ∷ xs) (b ∷ ys) l h e r = let k : b ≡ x = cc in let j : ys ≡ xs = cc in (each_cons (subst (λ (z : A). R z y) k r) each_nil, j)
  each_more (suc i) d y [] (b ∷ ys) l h e r = absurd (omega (arith, each_length h))
  each_more (suc i) d y (x ∷ xs) (b ∷ ys) l (each_cons h hs) e r = let k = each_more i d y xs ys (le_of_suc-le-suc l) hs e r in (each_cons h k.0, k.1)

module _ {R : NodeEntry → NodeEntry → Type 0} where
  -- the rows of entries that have changed; marks stay marks
  pub each_changed : (f : Row → Row) → ((e n : NodeEntry) → R e n → (row_of n ≡ f (row_of e)) × (Marked e → Marked n)) → {es ns : List NodeEntry} → Each R es ns
      → (map row_of ns ≡ map f (map row_of es)) × (All Marked es → All Marked ns)
  each_changed f g h = (rows h, λ m. all_each (λ e n (k : Marked e) (r : R e n). (g e n r).1 k) m h)
    where
      rows : {es ns : List NodeEntry} → Each R es ns → map row_of ns ≡ map f (map row_of es)
      rows each_nil = refl
      rows (each_cons {x} {y} k ks) = λ t. (g x y k).0 t ∷ rows ks t
