-- Rows stored one behind the other: what one turn of the loop over the entries adds.
use Prim.Native.Nat.{ℕ, zero, suc, ◌+◌, ◌<◌, ◌≤◌}
use mathlib.Core.Path.{◌≡◌, refl, sym, ◌∙◌, ap}
use mathlib.Core.Bool.{Bool, true, false, cond}
use mathlib.Core.List.{List, [], ◌∷◌, ◌++◌, append_assoc, append-nil, map}
use mathlib.Core.Logic.{◌⊎◌, inl, inr}
use native.Mathlib.Nat.{not-suc-le-zero, le_of_suc-le-suc}
use native.Mathlib.Omega.{arith}
use lib.ListN.{length, length-append, get_or, set, take, replicate}
use Rattle.laws.specs.Bools.{decide}
use Rattle.laws.specs.Views.{firsts}
use Rattle.std.proofs.lemmas.List.{take_more, length-take-le, length-map}
use Rattle.std.proofs.Common.{take_all}
use Rattle.rules.specs.House.{max_units}
use Rattle.rules.specs.Picture.{Row, Kept, kept_in}
use Rattle.rules_diff.specs.Differences as rules
use Rattle.rules_diff.specs.Differences.{listed_row, listed_rows_from}
use Rattle.row_entry.specs.declared.NodeEntry.{NodeEntry}
use Rattle.row_entry.specs.View.{row_of, is_listed}
use Rattle.row_entry.proofs.Marks.{kept_listed, kept_else}
use Rattle.row_node.specs.declared.NodeRow.{NodeRow}
use Rattle.row_node.specs.View.{held_pairs, node_row_of, node_row, held_row, no_node_row}
use Rattle.ring_rows.specs.declared.ListedRows.{ListedRows}
use Rattle.ring_rows.specs.View.{listed_entry, listed_entries, filled, filled_rows, node_rows_in}

-- filled places: none filled, one more, and none stored behind them
pub filled_start : (n : ℕ) → replicate n no_node_row ≡ filled n []
unfolding filled
filled_start zero = refl
filled_start (suc n) = ap (λ (l : List NodeRow). no_node_row ∷ l) (filled_start n)

filled_one : (n : ℕ) (r : NodeRow) (rs : List NodeRow) → set (filled n rs) (length rs) r ≡ filled n (rs ++ r ∷ [])
unfolding filled
filled_one zero r [] = refl
filled_one zero r (x ∷ rs) = refl
filled_one (suc n) r [] = refl
filled_one (suc n) r (x ∷ rs) = ap (λ (l : List NodeRow). x ∷ l) (filled_one n r rs)

pub filled_length : (n : ℕ) (rs : List NodeRow) → length (filled n rs) ≡ n
unfolding filled
filled_length zero rs = refl
filled_length (suc n) [] = ap suc (filled_length n [])
filled_length (suc n) (x ∷ rs) = ap suc (filled_length n rs)

-- what filled places stand for
filled_firsts : {B : Type 0} (v : NodeRow → B) (n : ℕ) (rs : List NodeRow) → length rs ≤ n → firsts v (length rs) (filled n rs) ≡ map v rs
unfolding firsts filled
filled_firsts v n [] h = refl
filled_firsts v zero (r ∷ rs) h = absurd (not-suc-le-zero h)
filled_firsts {B} v (suc n) (r ∷ rs) h = ap (λ (l : List B). v r ∷ l) (filled_firsts v n rs (le_of_suc-le-suc h))

listed_next : (x : ℕ) (e : NodeEntry) (es : List NodeEntry) → listed_entries x (es ++ e ∷ []) ≡ listed_entries x es ++ listed_entry (x + length es) e
unfolding listed_entries
listed_next x e [] = let z : x + 0 ≡ x = omega arith in rw z (append-nil (listed_entry x e))
listed_next x e (a ∷ es) =
    let z : x + suc (length es) ≡ suc x + length es = omega arith in
    rw (z, append_assoc) (ap (λ (l : List NodeRow). listed_entry x a ++ l) (listed_next (suc x) e es))

rules_next : (x : ℕ) (r : Row) (rs : List Row) → listed_rows_from x (rs ++ r ∷ []) ≡ listed_rows_from x rs ++ listed_row (x + length rs) (kept_in r)
unfolding listed_rows_from
rules_next x r [] = let z : x + 0 ≡ x = omega arith in rw z (append-nil (listed_row x (kept_in r)))
rules_next x r (a ∷ rs) =
    let z : x + suc (length rs) ≡ suc x + length rs = omega arith in
    rw (z, append_assoc) (ap (λ (l : List rules.NodeRow). listed_row x (kept_in a) ++ l) (rules_next (suc x) r rs))

map_append : {A B : Type 0} (f : A → B) (xs ys : List A) → map f (xs ++ ys) ≡ map f xs ++ map f ys
map_append f [] ys = refl
map_append {B = B} f (x ∷ xs) ys = ap (λ (l : List B). f x ∷ l) (map_append f xs ys)

-- the row of one entry stands for the rules' row
entry_stands : (x : ℕ) (e : NodeEntry) → node_row_of (node_row x e) ≡ held_row x e → map node_row_of (listed_entry x e) ≡ listed_row x (kept_in (row_of e))
unfolding listed_entry listed_row held_row held_pairs
entry_stands x e s = go (decide (is_listed (row_of e)))
  where
    rows_by : Bool → List rules.NodeRow
    rows_by b = map node_row_of (cond b (node_row x e ∷ []) [])

    go : (is_listed (row_of e) ≡ true) ⊎ (is_listed (row_of e) ≡ false) → rows_by (is_listed (row_of e)) ≡ listed_row x (kept_in (row_of e))
    go (inl h) = ap rows_by h ∙ ap (λ (r : rules.NodeRow). r ∷ []) s ∙ sym (ap (listed_row x) (kept_listed e h))
    go (inr h) = ap rows_by h ∙ sym (ap (listed_row x) (kept_else e h))

-- another row behind those that fill their places
pub pushed : (r : ListedRows) (row : NodeRow) (rs : List NodeRow) → r ≡ filled_rows rs
    → ◌≡◌ {A = ListedRows} (record { count = r.count + 1; rows = set r.rows r.count row }) (filled_rows (rs ++ row ∷ []))
unfolding filled_rows
pushed r row rs e =
    let n : length rs + 1 ≡ length (rs ++ row ∷ []) = omega (arith, length-append rs (row ∷ [])) in
    (λ t. record { count = (e t).count + 1; rows = set (e t).rows (e t).count row })
    ∙ (λ t. record { count = n t; rows = filled_one max_units row rs t })

-- the rows of the first i entries
unfoldable pub those : List NodeEntry → ℕ → List NodeRow
those es i = listed_entries 1 (take i es)

those_few : (x : ℕ) (es : List NodeEntry) → length (listed_entries x es) ≤ length es
unfolding listed_entries listed_entry
those_few x [] = omega arith
those_few x (e ∷ es) =
    let h = those_few (suc x) es in
    let l = length-append (listed_entry x e) (listed_entries (suc x) es) in
    let o = one (is_listed (row_of e)) in
    omega (arith, h, l, o)
  where
    one : (b : Bool) → length (cond b (node_row x e ∷ []) []) ≤ 1
    one true = omega arith
    one false = omega arith

-- the places are filled with the rows of the first i entries, which stand for the rules' rows
pub record Filling (es : List NodeEntry) (i : ℕ) (r : ListedRows) : Type 0 where
  pub places : r ≡ filled_rows (those es i)
  pub stands : map node_row_of (those es i) ≡ listed_rows_from 1 (map row_of (take i es))

pub filling_start : (es : List NodeEntry) {r : ListedRows} → r ≡ filled_rows [] → Filling es 0 r
unfolding those listed_entries listed_rows_from
filling_start es e = record { places = e; stands = refl }

-- no more rows than entries
pub filling_few : {es : List NodeEntry} {i : ℕ} {r : ListedRows} → i ≤ length es → Filling es i r → r.count ≤ i
unfolding those filled_rows
filling_few {es} {i} h f = omega (arith, ap (λ (r : ListedRows). r.count) f.places, those_few 1 (take i es), length-take-le i es h)

module _ (es : List NodeEntry) (i : ℕ) (d : NodeEntry) (h : i < length es) where
  these_next : those es (i + 1) ≡ those es i ++ listed_entry (i + 1) (get_or es i d)
  unfolding those
  these_next =
      let z : 1 + length (take i es) ≡ i + 1 = omega (arith, length-take-le i es (omega arith)) in
      ap (listed_entries 1) (take_more es i d h) ∙ listed_next 1 (get_or es i d) (take i es)
      ∙ ap (λ (x : ℕ). listed_entries 1 (take i es) ++ listed_entry x (get_or es i d)) z

  rows_next : listed_rows_from 1 (map row_of (take (i + 1) es))
      ≡ listed_rows_from 1 (map row_of (take i es)) ++ listed_row (i + 1) (kept_in (row_of (get_or es i d)))
  rows_next =
      let z : 1 + length (map row_of (take i es)) ≡ i + 1 = omega (arith, length-map (take i es) row_of, length-take-le i es (omega arith)) in
      ap (listed_rows_from 1) (ap (map row_of) (take_more es i d h) ∙ map_append row_of (take i es) (get_or es i d ∷ []))
      ∙ rules_next 1 (row_of (get_or es i d)) (map row_of (take i es))
      ∙ ap (λ (x : ℕ). listed_rows_from 1 (map row_of (take i es)) ++ listed_row x (kept_in (row_of (get_or es i d)))) z

  stands_next : node_row_of (node_row (i + 1) (get_or es i d)) ≡ held_row (i + 1) (get_or es i d)
      → map node_row_of (those es i) ≡ listed_rows_from 1 (map row_of (take i es))
      → map node_row_of (those es (i + 1)) ≡ listed_rows_from 1 (map row_of (take (i + 1) es))
  stands_next s f =
      ap (map node_row_of) these_next ∙ map_append node_row_of (those es i) (listed_entry (i + 1) (get_or es i d))
      ∙ ap (λ (l : List rules.NodeRow). l ++ map node_row_of (listed_entry (i + 1) (get_or es i d))) f
      ∙ ap (λ (l : List rules.NodeRow). listed_rows_from 1 (map row_of (take i es)) ++ l) (entry_stands (i + 1) (get_or es i d) s) ∙ sym rows_next

  -- the next entry: its row behind the others where it is listed, else none
  pub filling_push : {r q : ListedRows} {made : NodeRow} → is_listed (row_of (get_or es i d)) ≡ true → made ≡ node_row (i + 1) (get_or es i d)
      → node_row_of made ≡ held_row (i + 1) (get_or es i d) → ((rs : List NodeRow) → r ≡ filled_rows rs → q ≡ filled_rows (rs ++ made ∷ [])) → Filling es i r
      → Filling es (i + 1) q
  unfolding listed_entry
  filling_push t n s p f =
      record {
        places =
            p (those es i) f.places ∙ ap (λ (row : NodeRow). filled_rows (those es i ++ row ∷ [])) n
            ∙ ap (λ (b : Bool). filled_rows (those es i ++ cond b (node_row (i + 1) (get_or es i d) ∷ []) [])) (sym t) ∙ ap filled_rows (sym these_next);
        stands = stands_next (sym (ap node_row_of n) ∙ s) f.stands;
      }

  pub filling_pass : {r : ListedRows} → is_listed (row_of (get_or es i d)) ≡ false → Filling es i r → Filling es (i + 1) r
  unfolding listed_entry listed_row
  filling_pass {r} t f =
      let e = get_or es i d in
      let none : those es (i + 1) ≡ those es i =
      these_next ∙ ap (λ (b : Bool). those es i ++ cond b (node_row (i + 1) e ∷ []) []) t ∙ append-nil (those es i) in
      let rules_none : listed_rows_from 1 (map row_of (take (i + 1) es)) ≡ listed_rows_from 1 (map row_of (take i es)) =
      rows_next ∙ ap (λ (k : Kept). listed_rows_from 1 (map row_of (take i es)) ++ listed_row (i + 1) k) (kept_else e t)
      ∙ append-nil (listed_rows_from 1 (map row_of (take i es))) in
      record { places = f.places ∙ ap filled_rows (sym none); stands = ap (map node_row_of) none ∙ f.stands ∙ sym rules_none }

-- all entries
pub filling_end : {es : List NodeEntry} {i : ℕ} {r : ListedRows} → length es ≤ max_units → length es ≤ i → Filling es i r
    → (r ≡ filled_rows (listed_entries 1 es)) × (node_rows_in r ≡ listed_rows_from 1 (map row_of es))
unfolding those filled_rows node_rows_in
filling_end {es} {i} {r} m l f =
    let all = take_all i es l in
    let few = those_few 1 es in
    let p : r ≡ filled_rows (listed_entries 1 es) = f.places ∙ ap (λ (l : List NodeEntry). filled_rows (listed_entries 1 l)) all in (
      p,
      ap node_rows_in p ∙ filled_firsts node_row_of max_units (listed_entries 1 es) (omega arith)
          ∙ ap (λ (l : List NodeEntry). map node_row_of (listed_entries 1 l)) (sym all) ∙ f.stands ∙ ap (λ (l : List NodeEntry). listed_rows_from 1 (map row_of l)) all,
    )
