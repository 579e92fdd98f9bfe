-- The listing is whole: for each position what its row keeps, by position.
use Prim.Native.Nat.{ℕ, zero, suc, ◌+◌, ◌≤◌}
use mathlib.Core.Path.{◌≡◌, refl, ◌∙◌, ap, ap₂}
use mathlib.Core.Bool.{true, false}
use mathlib.Core.List.{List, [], ◌∷◌, ◌++◌, map, append-nil}
use native.Mathlib.Omega.{arith}
use borrow.Author.Tests.{eq-eqb, ne_eqb}
use lib.ListN.{get_or}
use Rattle.laws.specs.Lists.{select}
use Rattle.laws.specs.Alls.{All, all_nil, all_append, all_map, all_both, all_mapped, all_of, Pairwise, pairwise_nil, pairwise_append, pairwise_always, select_append, select_all, select_none}
use Rattle.rules.specs.Picture.{Pair, Row, Picture, Kept, nothing, kept, kept_in, kept_by, pairs_of, pairs_in, has_address, keeps, no_row, row_at}
use Rattle.rules.specs.Listing.{Entry, entry, entries_of, entries_from, listing}
use Rattle.rules.specs.Claims.{stands_at, WholeListing}

-- an entry of rows from position n on has the address of its row; of two entries the first stands in front or at the same position
abbrev Owned : ℕ → List Row → Entry → Type 0
Owned n rows e = (i : ℕ) → e.position ≡ n + i → keeps e.address (get_or rows i no_row) ≡ true

abbrev NotBehind : Entry → Entry → Type 0
NotBehind d e = d.position ≤ e.position

-- what holds of every entry that a row may have holds of those that it has
each_of : (P : Entry → Type 0) (x : ℕ) (k : Kept) → ((a : ℕ) (g : Pair) → has_address a k ≡ true → P (entry x a g)) → All P (entries_of x k)
unfolding entries_of has_address
each_of P x nothing h = all_nil
each_of P x (kept a ps) h = all_mapped (entry x a) (all_of ps (λ g. h a g (eq-eqb a a refl)))

-- their pairs are the row's
own_pairs : (x : ℕ) (k : Kept) → map (λ (e : Entry). e.pair) (entries_of x k) ≡ pairs_of k
unfolding entries_of pairs_of entry
own_pairs x nothing = refl
own_pairs x (kept a ps) = go ps
  where
    go : (qs : List Pair) → map (λ (e : Entry). e.pair) (map (entry x a) qs) ≡ qs
    go [] = refl
    go (q ∷ qs) = ap (◌∷◌ q) (go qs)

-- the entries of rows from a position on stand there or behind it
stand_behind : (n : ℕ) (rows : List Row) → All (λ (e : Entry). n ≤ e.position) (entries_from n rows)
unfolding entries_from entry
stand_behind n [] = all_nil
stand_behind n (r ∷ rows) =
    all_append (each_of (λ (e : Entry). n ≤ e.position) n (kept_in r) (λ a g h. omega arith))
    (all_map (λ e h. omega (arith, h)) (stand_behind (suc n) rows))

-- none of them stands in front
none_before : (x n : ℕ) (rows : List Row) → suc x ≤ n → select (stands_at x) (entries_from n rows) ≡ []
unfolding stands_at
none_before x n rows l = select_none (stands_at x) (all_map (λ e h. ne_eqb x e.position (λ q. omega (arith, h, l, q))) (stand_behind n rows))

-- those that stand at a position are its row's
stand_at : (n i : ℕ) (rows : List Row) → select (stands_at (n + i)) (entries_from n rows) ≡ entries_of (n + i) (kept_in (get_or rows i no_row))
unfolding entries_from entries_of entry select no_row kept_by stands_at
stand_at n i [] = refl
stand_at n zero (r ∷ rows) =
    let z : n + 0 ≡ n = omega arith in
    rw z
    (select_append (stands_at n) (entries_of n (kept_in r)) (entries_from (suc n) rows)
    ∙ ap₂ ◌++◌ (select_all (stands_at n) (each_of (λ (e : Entry). stands_at n e ≡ true) n (kept_in r) (λ a g h. eq-eqb n n refl))) (none_before n (suc n) rows (omega arith))
    ∙ append-nil (entries_of n (kept_in r)))
stand_at n (suc i) (r ∷ rows) =
    let z : n + suc i ≡ suc n + i = omega arith in
    rw z
    (select_append (stands_at (suc n + i)) (entries_of n (kept_in r)) (entries_from (suc n) rows)
    ∙ ap₂ ◌++◌ (select_none (stands_at (suc n + i)) (each_of (λ (e : Entry). stands_at (suc n + i) e ≡ false) n (kept_in r) (λ a g h. ne_eqb (suc n + i) n (λ q. omega (arith, q))))) (stand_at (suc n) i rows))

-- each has the address of its row
addresses_from : (n : ℕ) (rows : List Row) → All (Owned n rows) (entries_from n rows)
unfolding entries_from entry keeps
addresses_from n [] = all_nil
addresses_from n (r ∷ rows) =
    all_append (each_of (Owned n (r ∷ rows)) n (kept_in r) here)
    (all_map behind (all_both (stand_behind (suc n) rows) (addresses_from (suc n) rows)))
  where
    here : (a : ℕ) (g : Pair) → has_address a (kept_in r) ≡ true → Owned n (r ∷ rows) (entry n a g)
    here a g h zero e = h
    here a g h (suc i) e = absurd (omega (arith, e))

    behind : (e : Entry) → (suc n ≤ e.position) × Owned (suc n) rows e → Owned n (r ∷ rows) e
    behind e h zero q = absurd (omega (arith, q, h.0))
    behind e h (suc i) q = h.1 i (omega (arith, q))

-- the positions ascend
ascend_from : (n : ℕ) (rows : List Row) → Pairwise NotBehind (entries_from n rows)
unfolding entries_from entries_of entry
ascend_from n [] = pairwise_nil
ascend_from n (r ∷ rows) =
    pairwise_append (level (kept_in r)) (ascend_from (suc n) rows)
    (each_of (λ (d : Entry). All (NotBehind d) (entries_from (suc n) rows)) n (kept_in r) in_front)
  where
    level : (k : Kept) → Pairwise NotBehind (entries_of n k)
    level nothing = pairwise_nil
    level (kept a ps) = pairwise_always NotBehind (entry n a) (λ x y. omega arith) ps

    in_front : (a : ℕ) (g : Pair) → has_address a (kept_in r) ≡ true → All (NotBehind (entry n a g)) (entries_from (suc n) rows)
    in_front a g h = all_map (λ e l. omega (arith, l)) (stand_behind (suc n) rows)

pub whole_listing : (p : Picture) → WholeListing p
unfolding listing row_at pairs_in no_row kept_by pairs_of
whole_listing p =
    record {
      pairs = at;
      addresses = all_map one (all_both (stand_behind 1 p.rows) (addresses_from 1 p.rows));
      ascends = ascend_from 1 p.rows;
    }
  where
    at : (x : ℕ) → map (λ (e : Entry). e.pair) (select (stands_at x) (entries_from 1 p.rows)) ≡ pairs_in (row_at p.rows x)
    at zero = ap (map (λ (e : Entry). e.pair)) (none_before 0 1 p.rows (omega arith))
    at (suc i) =
        let z : suc i ≡ 1 + i = omega arith in
        rw z (ap (map (λ (e : Entry). e.pair)) (stand_at 1 i p.rows) ∙ own_pairs (1 + i) (kept_in (get_or p.rows i no_row)))

    one : (e : Entry) → (1 ≤ e.position) × Owned 1 p.rows e → keeps e.address (row_at p.rows e.position) ≡ true
    one e h = go e.position h.0 h.1
      where
        go : (x : ℕ) → 1 ≤ x → ((i : ℕ) → x ≡ 1 + i → keeps e.address (get_or p.rows i no_row) ≡ true) → keeps e.address (row_at p.rows x) ≡ true
        go zero l k = absurd (omega (arith, l))
        go (suc i) l k = k i (omega arith)
