-- The orders of one event fit the largest event.
use Prim.Native.Nat.{ℕ, zero, suc, ◌+◌, ◌-◌, ◌*◌, ◌/◌, ◌≤◌, min}
use mathlib.Core.Path.{◌≡◌, refl, sym, ◌∙◌, ap, ap₂, subst}
use mathlib.Core.Bool.{Bool, true, false, cond, not, ◌&&◌, ◌||◌}
use mathlib.Core.List.{List, [], ◌∷◌, ◌++◌, map}
use mathlib.Core.Logic.{◌⊎◌, inl, inr}
use native.Mathlib.Omega.{arith}
use borrow.Author.Tests.{eqb-true}
use lib.Dec.{ltb}
use lib.ListN.{length, take, drop, length-append, length-take, length-drop, replicate, length-replicate, length-map}
use Rattle.laws.specs.Lists.{any, select, collect}
use Rattle.laws.specs.Bools.{clash, decide, and_none, or_cases, cond_true, cond_false, or_true_left, or_true_right}
use Rattle.laws.specs.Alls.{All, all_head, all_tail, all_seat, all_out, Pairwise, pairwise_head, pairwise_tail, pairwise_out, any_none}
use Rattle.laws.specs.Sums.{total, total_append}
use Rattle.rules.specs.House.{min_size, max_nodes, max_units, max_pairs, max_entries, max_silences}
use Rattle.rules.specs.Picture.{is_not_ok, is_ok, Pair, holds, Status, WAITING, SETTING, LISTED, SILENT, IGNORED, Row, Picture, with_status, with_rows, with_state}
use Rattle.rules.specs.Picture.{Kept, nothing, kept, kept_by, kept_in, pairs_of, pairs_in, has_address, keeps, is_open, is_open_status, is_silent, is_silent_status, new_row, Seat, seat_at, others, put}
use Rattle.rules.specs.Listing.{entries_of, entries_from, listing, listed_pairs}
use Rattle.rules.specs.Event.{Event, two, four}
use Rattle.rules.specs.Order.{Order, ASK, SET, OK, NOTOK, NEW, INVALID, WAIT_SHORT, WAIT_LONG, kind_of, body_of, encode, encode_all}
use Rattle.rules.specs.Renumber.{judge, goods, Renumbering, finished, renumbers}
use Rattle.rules.specs.Step.{Packing, rows_separately, across_rows, Change, change, respond, asks, scanned, scan, begin, rescanned, rescan, shut_down, change_rows, silenced, asked, delay_ends, ignored, counted, on_counted, set_order, judged_for, renumbering_for, listed_row, keep_answer}
use Rattle.rules.specs.Ending.{becomes_ok, settled, ok_order, missing, packed, tell, lost, gained, tell_rows, told_by, told, waits, wait_order, end_orders, orders_of}
use Rattle.rules.proofs.Ways.{Ways, Seated, Keepers, every_taken}
use Rattle.rules.proofs.Pairs.{missing_self, goods_few}
use Rattle.rules.proofs.Sound.{Apart, RowsApart, RowProper, Proper, SoundRows, Sound, Formed, kept_after, length_counted, split_rows}
use Rattle.rules.proofs.Encode.{pairs_length}

-- how many bytes an order has
unfoldable pub size_of : Order → ℕ
size_of (ASK x) = 8
size_of (SET x a b o n) = 13
size_of OK = 7
size_of NOTOK = 7
size_of (NEW ps) = 8 + 2 * length ps
size_of (INVALID ps) = 8 + 2 * length ps
size_of WAIT_SHORT = 7
size_of WAIT_LONG = 7

encode_size : (n : ℕ) (o : Order) → length (encode n o) ≡ size_of o
unfolding encode four two kind_of body_of size_of
encode_size n (ASK x) = refl
encode_size n (SET x a b o m) = refl
encode_size n OK = refl
encode_size n NOTOK = refl
encode_size n (NEW ps) = let e = pairs_length ps in omega arith
encode_size n (INVALID ps) = let e = pairs_length ps in omega arith
encode_size n WAIT_SHORT = refl
encode_size n WAIT_LONG = refl

pub encode_all_size : (n : ℕ) (os : List Order) → length (encode_all n os) ≡ total size_of os
unfolding encode_all collect total
encode_all_size n [] = refl
encode_all_size n (o ∷ os) = length-append (encode n o) (collect (encode n) os) ∙ ap₂ ◌+◌ (encode_size n o) (encode_all_size n os)

-- ASKs: eight bytes for each row at most, none where no row passes
asks_size : (f : Row → Bool) (k : ℕ) (rows : List Row) → total size_of (asks f k rows) ≤ 8 * length rows
unfolding asks total size_of
asks_size f k [] = omega arith
asks_size f k (r ∷ rows) = go (f r) (asks_size f (suc k) rows)
  where
    go : (b : Bool) → total size_of (asks f (suc k) rows) ≤ 8 * length rows
        → total size_of (cond b (ASK k ∷ asks f (suc k) rows) (asks f (suc k) rows)) ≤ 8 * suc (length rows)
    go true e = omega arith
    go false e = omega arith

asks_none : (f : Row → Bool) (k : ℕ) (rows : List Row) → any f rows ≡ false → asks f k rows ≡ []
unfolding asks
asks_none f k rows h = go k rows (any_none f rows h)
  where
    go : (k : ℕ) (rows : List Row) → All (λ (r : Row). f r ≡ false) rows → asks f k rows ≡ []
    go k [] h = refl
    go k (r ∷ rows) h = cond_false (ASK k ∷ asks f (suc k) rows) (asks f (suc k) rows) (all_head h) ∙ go (suc k) rows (all_tail h)

-- what a list of pairs takes that is told: eight bytes an order and two a pair
packed_bytes : (most cap : ℕ) (ps : List Pair)
    → total (λ (q : List Pair). 8 + 2 * length q) (packed most cap ps) ≤ 8 * length (packed most cap ps) + 2 * length ps
unfolding packed total
packed_bytes zero cap ps = omega arith
packed_bytes (suc most) cap [] = omega arith
packed_bytes (suc most) cap (a ∷ ps) =
    let e = packed_bytes most cap (drop cap (a ∷ ps)) in
    let f : length (drop cap (a ∷ ps)) ≡ length (a ∷ ps) - cap = length-drop cap (a ∷ ps) in
    let g : length (take cap (a ∷ ps)) ≡ min cap (length (a ∷ ps)) = length-take cap (a ∷ ps) in
    omega arith

-- no more orders than there may be; and as many pairs as fill all but the last: "at most (L−1)/2 rounded down per order", so many at
-- least
abbrev min_told : ℕ
min_told = (min_size - 1) / 2

packed_few : (most cap : ℕ) (ps : List Pair) → length (packed most cap ps) ≤ most
unfolding packed
packed_few zero cap ps = omega arith
packed_few (suc most) cap [] = omega arith
packed_few (suc most) cap (a ∷ ps) = let e = packed_few most cap (drop cap (a ∷ ps)) in omega arith

packed_count : (most cap : ℕ) (ps : List Pair) → min_told ≤ cap → min_told * length (packed most cap ps) ≤ length ps + (min_told - 1)
unfolding packed
packed_count zero cap ps h = omega arith
packed_count (suc most) cap [] h = omega arith
packed_count (suc most) cap (a ∷ ps) h =
    let e = packed_count most cap (drop cap (a ∷ ps)) h in
    let f : length (drop cap (a ∷ ps)) ≡ length (a ∷ ps) - cap = length-drop cap (a ∷ ps) in
    omega arith

-- what the size of a telling order is
abbrev Tells : (List Pair → Order) → Type 0
Tells order = (q : List Pair) → size_of (order q) ≡ 8 + 2 * length q

tell_bytes : (order : List Pair → Order) → Tells order → (size : ℕ) (ps : List Pair)
    → total size_of (tell order size ps) ≤ 8 * length (packed (length ps) ((size - 1) / 2) ps) + 2 * length ps
unfolding tell total
tell_bytes order h size ps = let e = packed_bytes (length ps) ((size - 1) / 2) ps in let f = same (packed (length ps) ((size - 1) / 2) ps) in omega arith
  where
    same : (qs : List (List Pair)) → total size_of (map order qs) ≡ total (λ (q : List Pair). 8 + 2 * length q) qs
    same [] = refl
    same (q ∷ qs) = ap₂ ◌+◌ (h q) (same qs)

tell_size : (order : List Pair → Order) → Tells order → (size : ℕ) (ps : List Pair) → total size_of (tell order size ps) ≤ 10 * length ps
tell_size order h size ps = let e = tell_bytes order h size ps in let f = packed_few (length ps) ((size - 1) / 2) ps in omega arith

tells_invalid : Tells INVALID
unfolding size_of
tells_invalid q = refl

tells_new : Tells NEW
unfolding size_of
tells_new q = refl

-- the pairs that one list has and another lacks
missing_few : (ps qs : List Pair) → length (missing ps qs) ≤ length ps
unfolding missing select
missing_few [] qs = omega arith
missing_few (a ∷ ps) qs = go (not (holds qs a)) (missing ps qs) (missing_few ps qs)
  where
    go : (b : Bool) (l : List Pair) → length l ≤ length ps → length (cond b (a ∷ l) l) ≤ suc (length ps)
    go true l h = omega arith
    go false l h = omega arith

-- how many pairs change between two lists of rows, row by row
unfoldable changes : (Row → Row → List Pair) → List Row → List Row → ℕ
changes pairs [] after = 0
changes pairs (b ∷ bs) [] = 0
changes pairs (b ∷ bs) (a ∷ rest) = length (pairs b a) + changes pairs bs rest

rows_told : (order : List Pair → Order) → Tells order → (pairs : Row → Row → List Pair) (size : ℕ) (bs rest : List Row)
    → total size_of (tell_rows order pairs size bs rest) ≤ 10 * changes pairs bs rest
unfolding tell_rows changes total
rows_told order h pairs size [] rest = omega arith
rows_told order h pairs size (b ∷ bs) [] = omega arith
rows_told order h pairs size (b ∷ bs) (a ∷ rest) =
    let e = rows_told order h pairs size bs rest in
    let f = tell_size order h size (pairs b a) in
    rw total_append (omega arith)

told_size : (b c : Picture) → total size_of (told rows_separately b c) ≤ 10 * (changes lost b.rows c.rows + changes gained b.rows c.rows)
unfolding told told_by total
told_size b c = go (is_ok b.state && is_ok c.state)
  where
    go : (t : Bool)
        → total size_of (cond t (tell_rows INVALID lost c.size b.rows c.rows ++ tell_rows NEW gained c.size b.rows c.rows) []) ≤ 10 * (changes lost b.rows c.rows + changes gained b.rows c.rows)
    go true =
        let e = rows_told INVALID tells_invalid lost c.size b.rows c.rows in
        let f = rows_told NEW tells_new gained c.size b.rows c.rows in
        rw total_append (omega arith)
    go false = omega arith

-- rows that stay as they are
changes_same : (w : Row → Row → List Pair) → ((r : Row) → length (w r r) ≡ 0) → (rows : List Row) → changes w rows rows ≡ 0
unfolding changes
changes_same w h [] = refl
changes_same w h (r ∷ rows) = let e = h r in let f = changes_same w h rows in omega arith

changes_gone : (w : Row → Row → List Pair) (rows : List Row) → changes w rows [] ≡ 0
unfolding changes
changes_gone w [] = refl
changes_gone w (r ∷ rows) = refl

-- rows that f changes, each by a bounded amount
changes_map : (w : Row → Row → List Pair) (v : Row → ℕ) (f : Row → Row) → ((r : Row) → length (w r (f r)) ≤ v r) → (rows : List Row)
    → changes w rows (map f rows) ≤ total v rows
unfolding changes total
changes_map w v f h [] = omega arith
changes_map w v f h (r ∷ rows) = let e = h r in let g = changes_map w v f h rows in omega arith

changes_seat : (w : Row → Row → List Pair) (xs xs' : List Row) (r r' : Row) (ys ys' : List Row) → length xs ≡ length xs'
    → changes w (xs ++ r ∷ ys) (xs' ++ r' ∷ ys') ≡ changes w xs xs' + (length (w r r') + changes w ys ys')
unfolding changes
changes_seat w [] [] r r' ys ys' h = omega arith
changes_seat w [] (x' ∷ xs') r r' ys ys' h = absurd (omega arith)
changes_seat w (x ∷ xs) [] r r' ys ys' h = absurd (omega arith)
changes_seat w (x ∷ xs) (x' ∷ xs') r r' ys ys' h = let e = changes_seat w xs xs' r r' ys ys' (omega arith) in omega arith

lost_same : (r : Row) → length (lost r r) ≡ 0
unfolding lost
lost_same r = ap length (missing_self (pairs_in r))

gained_same : (r : Row) → length (gained r r) ≡ 0
unfolding gained
gained_same r = ap length (missing_self (pairs_in r))

lost_few : (b a : Row) → length (lost b a) ≤ length (pairs_in b)
unfolding lost
lost_few b a = missing_few (pairs_in b) (pairs_in a)

gained_few : (b a : Row) → length (gained b a) ≤ length (pairs_in a)
unfolding gained
gained_few b a = missing_few (pairs_in a) (pairs_in b)

pub row_few : (r : Row) → RowProper r → length (pairs_in r) ≤ max_pairs
unfolding pairs_in pairs_of
row_few r h = go (kept_in r) h
  where
    go : (k : Kept) → Proper k → length (pairs_of k) ≤ max_pairs
    go nothing h = omega arith
    go (kept a ps) h = h.1

-- one row changes: at most its old pairs are lost, and at most its new ones gained
put_changes : (s : Seat) (r : Row) → RowProper s.row → length (pairs_in r) ≤ max_pairs
    → changes lost (put s s.row) (put s r) + changes gained (put s s.row) (put s r) ≤ 2 * max_pairs
unfolding put
put_changes s r h k =
    let a = changes_seat lost s.front s.front s.row r s.back s.back refl in
    let b = changes_seat gained s.front s.front s.row r s.back s.back refl in
    let c = changes_same lost lost_same s.front in
    let d = changes_same lost lost_same s.back in
    let e = changes_same gained gained_same s.front in
    let f = changes_same gained gained_same s.back in
    let g = lost_few s.row r in
    let i = gained_few s.row r in
    let j = row_few s.row h in
    omega arith

-- of rows that are apart, only one keeps a given address
keepers : (a : ℕ) (counts : Row → Bool) → Keepers counts a → (rows : List Row) → Pairwise RowsApart rows → All RowProper rows
    → total (λ (r : Row). cond (counts r) (length (pairs_in r)) 0) rows ≤ max_pairs
unfolding total has_address keeps
keepers a counts k [] h m = omega arith
keepers a counts k (r ∷ rows) h m = go (decide (counts r)) (keepers a counts k rows (pairwise_tail h) (all_tail m))
  where
    other : (x y : Kept) → has_address a x ≡ true → Apart x y → has_address a y ≡ false
    other nothing y e f = clash e refl
    other (kept b ps) nothing e f = refl
    other (kept b ps) (kept c qs) e f = rw (eqb-true a b e) f.0

    none_left : (ss : List Row) → keeps a r ≡ true → All (RowsApart r) ss → total (λ (s : Row). cond (counts s) (length (pairs_in s)) 0) ss ≡ 0
    none_left [] e f = refl
    none_left (s ∷ ss) e f = let z = none_left ss e (all_tail f) in let y = zero_here (counts s) refl in omega arith
      where
        zero_here : (b : Bool) → counts s ≡ b → cond b (length (pairs_in s)) 0 ≡ 0
        zero_here true g = clash (k s g) (other (kept_in r) (kept_in s) e (all_head f))
        zero_here false g = refl

    go : (counts r ≡ true) ⊎ (counts r ≡ false) → total (λ (s : Row). cond (counts s) (length (pairs_in s)) 0) rows ≤ max_pairs
        → cond (counts r) (length (pairs_in r)) 0 + total (λ (s : Row). cond (counts s) (length (pairs_in s)) 0) rows ≤ max_pairs
    go (inl e) l = let z = none_left rows (k r e) (pairwise_head h) in let j = row_few r (all_head m) in rw e (omega arith)
    go (inr e) l = rw e (omega arith)

total_zero : (rows : List Row) → total (λ (r : Row). 0) rows ≡ 0
unfolding total
total_zero [] = refl
total_zero (r ∷ rows) = let e = total_zero rows in omega arith

ignored_pairs : (a : ℕ) (r : Row) → pairs_in (ignored a r) ≡ []
unfolding pairs_in pairs_of ignored with_status kept_by
ignored_pairs a r = refl

silenced_pairs : (r : Row) → pairs_in (silenced r) ≡ []
unfolding pairs_in pairs_of silenced kept_by
silenced_pairs r = refl

gained_ignored : (a : ℕ) (r s : Row) → length (gained r (ignored a s)) ≡ 0
gained_ignored a r s = let e = gained_few r (ignored a s) in let f = ap length (ignored_pairs a s) in omega arith

-- rows are IGNORED: the one in the seat and at most one other lose their pairs, and nothing is gained
counted_changes : (a : ℕ) (counts : Row → Bool) → Keepers counts a → (s : Seat) → SoundRows (put s s.row)
    → changes lost (put s s.row) (on_counted counts (λ (r : Row). ignored a (counted r)) s) + changes gained (put s s.row) (on_counted counts (λ (r : Row). ignored a (counted r)) s) ≤ 2 * max_pairs
unfolding put on_counted total
counted_changes a counts k s h =
    let out = ignored a (counted s.row) in
    let l = changes_seat lost s.front (map g s.front) s.row out s.back (map g s.back) (sym (length-map s.front g)) in
    let m = changes_seat gained s.front (map g s.front) s.row out s.back (map g s.back) (sym (length-map s.front g)) in
    let c = changes_map lost v g (λ r. loses r (counts r)) s.front in
    let d = changes_map lost v g (λ r. loses r (counts r)) s.back in
    let e = changes_map gained (λ (r : Row). 0) g (λ r. gains r (counts r)) s.front in
    let f = changes_map gained (λ (r : Row). 0) g (λ r. gains r (counts r)) s.back in
    let t = total_append v s.front s.back in
    let z = total_zero s.front in
    let y = total_zero s.back in
    let w = keepers a counts k (s.front ++ s.back) (pairwise_out s.front s.row s.back h.apart) (all_out s.front s.row s.back h.proper) in
    let i = lost_few s.row out in
    let j = row_few s.row (all_seat s.front s.row s.back h.proper) in
    let n = gained_ignored a s.row (counted s.row) in
    omega arith
  where
    g : Row → Row
    g r = cond (counts r) (ignored a (counted r)) r

    v : Row → ℕ
    v r = cond (counts r) (length (pairs_in r)) 0

    loses : (r : Row) (b : Bool) → length (lost r (cond b (ignored a (counted r)) r)) ≤ cond b (length (pairs_in r)) 0
    loses r true = lost_few r (ignored a (counted r))
    loses r false = let e = lost_same r in omega arith

    gains : (r : Row) (b : Bool) → length (gained r (cond b (ignored a (counted r)) r)) ≤ 0
    gains r true = let e = gained_ignored a r (counted r) in omega arith
    gains r false = let e = gained_same r in omega arith

-- the ending: seven bytes for OK and seven for a WAIT, and none while a question is open
ok_size : (p : Picture) → total size_of (ok_order p) ≤ 7
unfolding ok_order total size_of
ok_size p = go (becomes_ok p)
  where
    go : (b : Bool) → total size_of (cond b (OK ∷ []) []) ≤ 7
    go true = omega arith
    go false = omega arith

wait_size : (p : Picture) → total size_of (wait_order p) ≤ 7
unfolding wait_order total size_of
wait_size p = go (waits p) (any (λ (r : Row). is_silent r && ltb r.silences max_silences) p.rows)
  where
    go : (b c : Bool) → total size_of (cond b (cond c WAIT_SHORT WAIT_LONG ∷ []) []) ≤ 7
    go true true = omega arith
    go true false = omega arith
    go false c = omega arith

pub open_no_ok : (p : Picture) → any is_open p.rows ≡ true → ok_order p ≡ []
unfolding ok_order becomes_ok
open_no_ok p h = cond_false (OK ∷ []) [] (ap (λ (b : Bool). is_not_ok p.state && not b) h ∙ and_none (is_not_ok p.state))

pub open_no_wait : (p : Picture) → any is_open p.rows ≡ true → wait_order (settled p) ≡ []
unfolding wait_order waits settled with_state
open_no_wait p h =
    cond_false _ []
    (ap (λ (b : Bool). is_ok (settled p).state && not b && any is_silent p.rows && not p.delay) h
    ∙ ap (λ (b : Bool). b && any is_silent p.rows && not p.delay) (and_none (is_ok (settled p).state)))

ending_open : (p : Picture) → any is_open p.rows ≡ true → total size_of (end_orders p) ≡ 0
unfolding end_orders total
ending_open p h = rw (open_no_ok p h, open_no_wait p h)

ending_size : (p : Picture) → total size_of (end_orders p) ≤ 14
unfolding end_orders
ending_size p = let a = ok_size p in let b = wait_size (settled p) in rw total_append (omega arith)

orders_size : (p : Picture) (c : Change) → total size_of (orders_of p c)
    ≡ total size_of c.first + total size_of (told c.packing p c.picture) + total size_of c.set + total size_of (end_orders c.picture)
unfolding orders_of
orders_size p c = simp total_append

-- ASKs and the ending: where a row is asked, a question is open and the ending writes nothing
asks_end : (f : Row → Bool) (rows : List Row) (q : Picture) → suc (length rows) ≤ max_nodes → (any f rows ≡ true → any is_open q.rows ≡ true)
    → total size_of (asks f 1 rows) + total size_of (end_orders q) ≤ 8 * max_units
unfolding total
asks_end f rows q l h = go (decide (any f rows))
  where
    go : (any f rows ≡ true) ⊎ (any f rows ≡ false) → total size_of (asks f 1 rows) + total size_of (end_orders q) ≤ 8 * max_units
    go (inl e) = omega (arith, asks_size f 1 rows, ending_open q (h e))
    go (inr e) = omega (arith, ap (total size_of) (asks_none f 1 rows e), ending_size q)

-- the bytes of the largest event, an NCE in OK: an ASK for each row, and every pair told in orders of the smallest L
abbrev pub largest : ℕ
largest = 8 * max_units + 8 * ((max_entries + (min_told - 1)) / min_told) + 2 * max_entries

-- where OK is left nothing is told
pub told_none : (k : Packing) (p c : Picture) → is_ok c.state ≡ false → told k p c ≡ []
unfolding told
told_none k p c h = cond_false _ [] (ap (λ (b : Bool). is_ok p.state && b) h ∙ and_none (is_ok p.state))

-- a new pass: NOTOK and an ASK for each row
scan_size : (p : Picture) (first : List Order) (rows : List Row) → total size_of first ≤ 7 → suc (length rows) ≤ max_nodes
    → total size_of (orders_of p (scan first rows p)) ≤ largest
unfolding scan scanned is_ok total
scan_size p first rows h l =
    let o = orders_size p (scan first rows p) in
    let t = ap (total size_of) (told_none rows_separately p (scanned rows p) refl) in
    let a = total_append size_of first (asks is_open 1 rows) in
    let e = asks_end is_open rows (scanned rows p) l (λ k. k) in
    omega arith

-- the pairs of the listing
pub listing_size : (x : ℕ) (rows : List Row) → All RowProper rows → length (entries_from x rows) ≤ length rows * max_pairs
unfolding entries_from entries_of
listing_size x [] h = omega arith
listing_size x (r ∷ rows) h = let e = listing_size (suc x) rows (all_tail h) in let f = one (kept_in r) (all_head h) in rw length-append (omega arith)
  where
    one : (k : Kept) → Proper k → length (entries_of x k) ≤ max_pairs
    one nothing h = omega arith
    one (kept a ps) h = rw length-map h.1

-- every pair listed so far, in orders that are full but for the last
told_listed : (p q : Picture) → Sound p → p.size ≡ q.size
    → total size_of (told across_rows p q) ≤ 8 * ((max_entries + (min_told - 1)) / min_told) + 2 * max_entries
unfolding told told_by listed_pairs listing total
told_listed p q h s = go (is_ok p.state && is_ok q.state)
  where
    go : (t : Bool) → total size_of (cond t (tell INVALID q.size (listed_pairs p)) []) ≤ 8 * ((max_entries + (min_told - 1)) / min_told) + 2 * max_entries
    go true =
        let f = h.rows.few in
        let z = h.size in
        let l = listing_size 1 p.rows h.rows.proper in
        let m : length (listed_pairs p) ≡ length (listing p) = length-map (listing p) _ in
        let c : min_told ≤ (q.size - 1) / 2 = omega arith in
        let b = tell_bytes INVALID tells_invalid q.size (listed_pairs p) in
        let n = packed_count (length (listed_pairs p)) ((q.size - 1) / 2) (listed_pairs p) c in
        omega arith
    go false = omega arith

-- a ring change in OK: an ASK for each row, and every pair listed so far
rescan_size : (p : Picture) → Sound p → (n : ℕ) → 1 ≤ n → n ≤ max_nodes → total size_of (orders_of p (rescan n p)) ≤ largest
unfolding rescan rescanned total
rescan_size p h n l m =
    let o = orders_size p (rescan n p) in
    let t = told_listed p (rescan n p).picture h refl in
    let e = asks_end is_open (replicate (n - 1) new_row) (rescan n p).picture (rw length-replicate (omega arith)) (λ k. k) in
    omega arith

-- rows that change in place: what is told, a SET and the ending
rows_size : (p : Picture) (c : Change) → c.first ≡ [] → c.packing ≡ rows_separately → total size_of c.set ≤ 13
    → changes lost p.rows c.picture.rows + changes gained p.rows c.picture.rows ≤ 2 * max_pairs → total size_of (orders_of p c) ≤ largest
unfolding total
rows_size p c f k s h =
    let o = orders_size p c in
    let t = told_size p c.picture in
    let g : told c.packing p c.picture ≡ told rows_separately p c.picture = ap (λ (y : Packing). told y p c.picture) k in
    let u = ap (total size_of) g in
    let z = ending_size c.picture in
    let e : total size_of c.first ≡ 0 = ap (total size_of) f in
    omega arith

set_size : (x a : ℕ) (n : Renumbering) → total size_of (set_order x a n) ≤ 13
unfolding set_order total size_of
set_size x a finished = omega arith
set_size x a (renumbers i t b n) = omega arith

listed_pairs_lem : (s : Seat) (a : ℕ) (ps : List Pair) → length (pairs_in (listed_row s a ps)) ≤ length ps
unfolding pairs_in pairs_of listed_row judged_for
listed_pairs_lem s a ps =
    subst (λ (k : Kept). length (pairs_of k) ≤ length ps) (sym (kept_after a (goods (judge (collect pairs_in (others s)) [] ps)) (renumbering_for s ps)))
    (goods_few (collect pairs_in (others s)) [] ps)

-- a delay changes no pair, and opens a question for each SILENT row
asked_pairs : (r : Row) → pairs_in (asked r) ≡ pairs_in r
unfolding asked is_silent is_silent_status pairs_in pairs_of kept_by with_status
asked_pairs r = go r.status r.bad r.silences
  where
    go : (s : Status) (b n : ℕ)
        → pairs_in (asked (record { status = s; bad = b; silences = n })) ≡ pairs_in (record { status = s; bad = b; silences = n })
    go WAITING b n = refl
    go (SETTING a ps i t) b n = refl
    go (LISTED a ps) b n = refl
    go SILENT b n = refl
    go (IGNORED a) b n = refl

asked_open : (r : Row) → is_silent r ≡ true → is_open (asked r) ≡ true
unfolding asked with_status is_open is_open_status
asked_open r h = ap is_open (cond_true (with_status WAITING r) r h)

silent_opens : (rows : List Row) → any is_silent rows ≡ true → any is_open (map asked rows) ≡ true
unfolding any
silent_opens [] h = clash h refl
silent_opens (r ∷ rows) h = go (or_cases (is_silent r) (any is_silent rows) h) (λ k. silent_opens rows k)
  where
    go : (is_silent r ≡ true) ⊎ (any is_silent rows ≡ true) → (any is_silent rows ≡ true → any is_open (map asked rows) ≡ true)
        → (is_open (asked r) || any is_open (map asked rows)) ≡ true
    go (inl e) f = or_true_left (is_open (asked r)) (any is_open (map asked rows)) (asked_open r e)
    go (inr e) f = or_true_right (is_open (asked r)) (any is_open (map asked rows)) (f e)

asked_loses : (r : Row) → length (lost r (asked r)) ≤ 0
unfolding lost
asked_loses r = rw asked_pairs (omega (arith, lost_same r))

asked_gains : (r : Row) → length (gained r (asked r)) ≤ 0
unfolding gained
asked_gains r = rw asked_pairs (omega (arith, gained_same r))

delay_size : (p : Picture) → suc (length p.rows) ≤ max_nodes → total size_of (orders_of p (delay_ends p)) ≤ largest
unfolding delay_ends total
delay_size p h =
    let q = (delay_ends p).picture in
    let o = orders_size p (delay_ends p) in
    let t = told_size p q in
    let l = changes_map lost (λ (r : Row). 0) asked asked_loses p.rows in
    let g = changes_map gained (λ (r : Row). 0) asked asked_gains p.rows in
    let z = total_zero p.rows in
    let e = asks_end is_silent p.rows q h (silent_opens p.rows) in
    omega arith

module _ (p : Picture) (h : Sound p) where
  onto : (c x : ℕ) → Seated p c x → (rows : List Row)
      → changes lost (put (seat_at p.rows x) (seat_at p.rows x).row) rows + changes gained (put (seat_at p.rows x) (seat_at p.rows x).row) rows ≤ 2 * max_pairs
      → changes lost p.rows rows + changes gained p.rows rows ≤ 2 * max_pairs
  onto c x s rows k = subst (λ (l : List Row). changes lost l rows + changes gained l rows ≤ 2 * max_pairs) (sym s.split) k

  seat_proper : (c x : ℕ) → Seated p c x → RowProper (seat_at p.rows x).row
  unfolding put
  seat_proper c x s = all_seat (seat_at p.rows x).front (seat_at p.rows x).row (seat_at p.rows x).back (split_rows p h c x s).proper

  size_ways : Ways p (λ (e : Event) (c : Change). Formed e → total size_of (orders_of p c) ≤ largest)
  unfolding begin scan shut_down change_rows with_rows keep_answer total size_of
  size_ways =
      record {
        starts = λ n l f. scan_size p [] _ (omega arith) (rw length-replicate (omega (arith, f.0, f.1)));
        ring_changes = λ n l i f. scan_size p (NOTOK ∷ []) _ (omega arith) (rw length-replicate (omega (arith, f.0, f.1)));
        ring_changes_in_ok = λ n l i f. rescan_size p h n f.0 f.1;
        shuts = λ f. rows_size p _ refl refl (omega arith) (omega (arith, changes_gone lost p.rows, changes_gone gained p.rows));
        silences = λ c x s o f. rows_size p _ refl refl (omega arith) (onto c x s _ (put_changes _ _ (seat_proper c x s) (omega (arith, ap length (silenced_pairs (seat_at p.rows x).row)))));
        delays = λ c d f. delay_size p h.rows.few;
        bars = λ c x a ps s o z f. rows_size p _ refl refl (omega arith) (onto c x s _ (put_changes _ _ (seat_proper c x s) (omega (arith, ap length (ignored_pairs a (seat_at p.rows x).row)))));
        ignores = λ c x a ps s o counts k z f. rows_size p _ refl refl (omega arith) (onto c x s _ (counted_changes a counts k _ (split_rows p h c x s)));
        restarts = λ c x a ps s o counts b l f. scan_size p (NOTOK ∷ []) _ (omega arith) (rw length-map (omega (arith, (split_rows p h c x s).few, length_counted counts counted (seat_at p.rows x))));
        keeps = λ c x a ps s o k f. rows_size p _ refl refl (set_size x a _) (onto c x s _ (put_changes _ _ (seat_proper c x s) (omega (arith, f, listed_pairs_lem (seat_at p.rows x) a ps))));
      }

-- every taken event
pub size_largest : (p : Picture) → Sound p → (e : Event) (c : Change) → respond p e ≡ change c → Formed e → total size_of (orders_of p c) ≤ largest
size_largest p h = every_taken p _ (size_ways p h)
