-- Tables of marked numbers, and the least that is not marked.
use Prim.Native.Nat.{ℕ, zero, suc, ◌+◌, ◌-◌, ◌<◌, ◌≤◌}
use mathlib.Core.Path.{◌≡◌, refl, sym, ◌∙◌, ap}
use mathlib.Core.Bool.{Bool, true, false, cond, ◌||◌}
use mathlib.Core.List.{List, [], ◌∷◌, ◌++◌}
use mathlib.Core.Option.{Option, none, some}
use native.Mathlib.Omega.{arith}
use native.Mathlib.Numerals.{add-one}
use mathlib.Core.Logic.{◌⊎◌, ◌≢◌, inl, inr}
use borrow.Author.Tests.{eqb-true, eqb-false, eq-eqb, ne_eqb}
use lib.Dec.{eqb}
use lib.ListN.{length, set, replicate, length-set, get_or-replicate}
use lib.Seq.{get_or-set_same, get_or-set_other}
use Rattle.laws.specs.Bools.{decide, or_true_right, or_assoc, or_none}
use Rattle.laws.specs.Lists.{any, collect}
use Rattle.laws.specs.Alls.{any_append}
use Rattle.rules.specs.Picture.{Pair, Row, pairs_in}
use Rattle.rules.specs.Renumber.{numbers_of, is_in, least_from, least_free, free_number}
use Rattle.row_renumber.specs.Marks.{is_marked, Added, least_by}

numbers_append : (b : ℕ) (xs ys : List Pair) → numbers_of b (xs ++ ys) ≡ numbers_of b xs ++ numbers_of b ys
unfolding numbers_of
numbers_append b [] ys = refl
numbers_append b (a ∷ xs) ys = go (numbers_append b xs ys) (eqb b a.block)
  where
    go : numbers_of b (xs ++ ys) ≡ numbers_of b xs ++ numbers_of b ys → (t : Bool) → cond t (a.number ∷ numbers_of b (xs ++ ys)) (numbers_of b (xs ++ ys)) ≡ cond t (a.number ∷ numbers_of b xs) (numbers_of b xs) ++ numbers_of b ys
    go h true = ap (λ (l : List ℕ). a.number ∷ l) h
    go h false = h

-- one number more, where its block is the one looked at; else the table as it is
pub added_here : (t : List Bool) (b : ℕ) (a : Pair) → a.number < length t → a.block ≡ b → Added t (numbers_of b (a ∷ [])) (set t a.number true)
unfolding is_marked numbers_of is_in any
added_here t b a l s = record { full = length-set t a.number true; marked = λ n h. go n (decide (eqb n a.number)) }
  where
    here : eqb b a.block ≡ true
    here = eq-eqb b a.block (sym s)

    go : (n : ℕ) → (eqb n a.number ≡ true) ⊎ (eqb n a.number ≡ false) → is_marked (set t a.number true) n ≡ is_marked t n || is_in (numbers_of b (a ∷ [])) n
    go n (inl q) =
        let z = eqb-true n a.number q in
        rw z (simp (here, get_or-set_same t a.number true false l, eq-eqb a.number a.number refl) (sym (or_true_right (is_marked t a.number) true refl)))
    go n (inr q) = simp (here, q, get_or-set_other t a.number n true false (eqb-false n a.number q)) (sym (or_none (is_marked t n)))

pub added_none : (t : List Bool) (b : ℕ) (a : Pair) → a.block ≢ b → Added t (numbers_of b (a ∷ [])) t
unfolding numbers_of is_in any
added_none t b a s = record { full = refl; marked = λ n h. simp other (sym (or_none (is_marked t n))) }
  where
    other : eqb b a.block ≡ false
    other = ne_eqb b a.block (λ e. s (sym e))

-- a loop that marks: the rest, marked from here on, makes the whole
pub record Left (before : List Bool) (whole : List ℕ) (now : List Bool) (rest : List ℕ) : Type 0 where
  pub full : length now ≡ length before
  pub marked : (n : ℕ) → n < 256 → (is_marked now n || is_in rest n) ≡ (is_marked before n || is_in whole n)

in_append : (xs ys : List ℕ) (n : ℕ) → is_in (xs ++ ys) n ≡ is_in xs n || is_in ys n
unfolding is_in
in_append xs ys n = any_append (eqb n) xs ys

pub left_on : {t u v : List Bool} {whole xs rest : List ℕ} (part : List ℕ) → xs ≡ part ++ rest → Added u part v → Left t whole u xs → Left t whole v rest
left_on {t} {u} {v} {whole} {xs} {rest} part e a k =
    record {
      full = a.full ∙ k.full;
      marked = λ n h. ap (λ (b : Bool). b || is_in rest n) (a.marked n h) ∙ or_assoc (is_marked u n) (is_in part n) (is_in rest n)
          ∙ ap (λ (b : Bool). is_marked u n || b) (sym (in_append part rest n) ∙ ap (λ (l : List ℕ). is_in l n) (sym e)) ∙ k.marked n h;
    }

pub left_end : {t u : List Bool} {whole xs : List ℕ} → xs ≡ [] → Left t whole u xs → Added t whole u
unfolding is_in any
left_end {t} {u} {whole} {xs} e k =
    record { full = k.full; marked = λ n h. sym (or_none (is_marked u n)) ∙ ap (λ (l : List ℕ). is_marked u n || is_in l n) (sym e) ∙ k.marked n h }

-- the numbers of a pair, and of an entry, and of the rest
pub numbers_pair : (b : ℕ) {ps rest : List Pair} {a : Pair} → ps ≡ a ∷ rest → numbers_of b ps ≡ numbers_of b (a ∷ []) ++ numbers_of b rest
numbers_pair b {ps} {rest} {a} e = ap (numbers_of b) e ∙ numbers_append b (a ∷ []) rest

pub numbers_row : (b : ℕ) {rows rest : List Row} {r : Row} {kept : List Pair} → rows ≡ r ∷ rest → kept ≡ pairs_in r
    → numbers_of b (collect pairs_in rows) ≡ numbers_of b kept ++ numbers_of b (collect pairs_in rest)
unfolding collect
numbers_row b {rows} {rest} {r} {kept} e k =
    ap (λ (l : List Row). numbers_of b (collect pairs_in l)) e ∙ numbers_append b (pairs_in r) (collect pairs_in rest)
    ∙ ap (λ (l : List Pair). numbers_of b l ++ numbers_of b (collect pairs_in rest)) (sym k)

pub numbers_none : (b : ℕ) {ps : List Pair} → ps ≡ [] → numbers_of b ps ≡ []
unfolding numbers_of
numbers_none b e = ap (numbers_of b) e

pub rows_none : (b : ℕ) {rows : List Row} → rows ≡ [] → numbers_of b (collect pairs_in rows) ≡ []
unfolding numbers_of collect
rows_none b e = ap (λ (l : List Row). numbers_of b (collect pairs_in l)) e

-- the search, one number at a time
module _ (f : ℕ → Bool) where
  count_down : (n : ℕ) → n < 255 → 255 - n ≡ suc (255 - (n + 1))
  count_down n h = omega arith

  pub least_found : (n : ℕ) {whole : Option ℕ} → n < 255 → f n ≡ false → least_by f (255 - n) n ≡ whole → some n ≡ whole
  unfolding least_by
  least_found n h e w =
      sym (ap (λ (k : ℕ). least_by f k n) (count_down n h) ∙ ap (λ (b : Bool). cond b (least_by f (255 - (n + 1)) (suc n)) (some n)) e) ∙ w

  pub least_on : (n : ℕ) {whole : Option ℕ} → n < 255 → f n ≡ true → least_by f (255 - n) n ≡ whole → least_by f (255 - (n + 1)) (n + 1) ≡ whole
  unfolding least_by
  least_on n h e w =
      ap (least_by f (255 - (n + 1))) (add-one n)
      ∙ sym (ap (λ (k : ℕ). least_by f k n) (count_down n h) ∙ ap (λ (b : Bool). cond b (least_by f (255 - (n + 1)) (suc n)) (some n)) e) ∙ w

  pub least_end : (n : ℕ) {whole : Option ℕ} → 255 ≤ n → least_by f (255 - n) n ≡ whole → none ≡ whole
  unfolding least_by
  least_end n h w = let e : 255 - n ≡ 0 = omega arith in sym (ap (λ (k : ℕ). least_by f k n) e) ∙ w

  least_same : (used : List ℕ) → ((n : ℕ) → n < 256 → f n ≡ is_in used n) → (left n : ℕ) → n + left < 256 → least_by f left n ≡ least_from used left n (is_in used n)
  unfolding least_by least_from
  least_same used h zero n l = refl
  least_same used h (suc left) n l = go (is_in used n) (h n (omega arith)) (least_same used h left (suc n) (omega arith))
    where
      go : (b : Bool) → f n ≡ b → least_by f left (suc n) ≡ least_from used left (suc n) (is_in used (suc n))
          → cond (f n) (least_by f left (suc n)) (some n) ≡ least_from used (suc left) n b
      go true e k = ap (λ (b : Bool). cond b (least_by f left (suc n)) (some n)) e ∙ k
      go false e k = ap (λ (b : Bool). cond b (least_by f left (suc n)) (some n)) e

-- a table that starts empty, marked by the other rows and by the answer, gives the rules' free number
pub least_free_lem : {t u : List Bool} (elsewhere announced : List Pair) (b : ℕ) → Added (replicate 256 false) (numbers_of b elsewhere) t → Added t (numbers_of b announced) u
    → least_by (is_marked u) 254 1 ≡ free_number elsewhere announced b
unfolding free_number least_free is_marked
least_free_lem {t} {u} elsewhere announced b h k = least_same (is_marked u) (numbers_of b elsewhere ++ numbers_of b announced) (λ n l. go n l) 254 1 (omega arith)
  where
    go : (n : ℕ) → n < 256 → is_marked u n ≡ is_in (numbers_of b elsewhere ++ numbers_of b announced) n
    go n l =
        k.marked n l
        ∙ ap (λ (c : Bool). c || is_in (numbers_of b announced) n)
        (h.marked n l ∙ ap (λ (m : Bool). m || is_in (numbers_of b elsewhere) n) (get_or-replicate 256 n false false l))
        ∙ sym (in_append (numbers_of b elsewhere) (numbers_of b announced) n)
