-- Rows that are refused and rows that are not, what is written, and the rows of a ring picture.
use Prim.Native.Nat.{ℕ, suc, ◌+◌, ◌*◌, ◌/◌, ◌%◌, ◌<◌, ◌≤◌}
use mathlib.Core.Path.{◌≡◌, refl, sym, ◌∙◌, ap, subst}
use mathlib.Core.Bool.{Bool, true, false, cond, not, ◌&&◌, ◌||◌}
use mathlib.Core.List.{List, [], ◌∷◌, ◌++◌, map}
use mathlib.Core.Logic.{◌≢◌, ◌⊎◌, inl, inr}
use native.Mathlib.Nat.{not-suc-le-zero}
use native.Mathlib.Omega.{arith}
use borrow.Author.Tests.{le-leb, lt-leb, leb-true, leb-false, lt-ltb, le-ltb, ltb-true, ltb-false, eq-eqb, ne_eqb}
use lib.Dec.{leb, ltb}
use lib.ListN.{length, length-append, drop}
use Rattle.laws.specs.Buffers.{sets_start}
use Rattle.laws.specs.Lists.{any, collect}
use Rattle.laws.specs.Bools.{clash, decide, refute, and_left, and_right, or_left, or_right, or_false, not_false, cond_true, cond_false}
use Rattle.laws.specs.Alls.{All, all_nil, all_cons, all_head, all_tail, all_append, all_map, Pairwise, pairwise_nil, pairwise_cons, pairwise_head, pairwise_tail, any_none, none_any}
use Rattle.rules.specs.House.{max_nodes, max_pairs}
use Rattle.rules.specs.Picture.{Pair, same_pair, holds, Row, Kept, nothing, kept, kept_in, Picture, fresh}
use Rattle.rules.specs.Event.{two}
use Rattle.rules.specs.Run.{Record, after}
use Rattle.rules.specs.Listing.{Entry, entry, entries_of, listed_of, entries_from, listed_from, listing, listed_positions}
use Rattle.rules.proofs.Pairs.{Differ, same_self, same_eq}
use Rattle.rules.proofs.Sound.{Proper, RowProper, SoundRows}
use Rattle.rules.proofs.Runs.{Running, running_fresh, running_taken}
use Rattle.rules.proofs.Along.{along}
use Rattle.rules_diff.specs.Differences.{NodeRow, listed_row, listed_rows_from, listed_rows, absent, present, seen_at, Line, position_gone, position_new, address_changed, pair_gone, pair_new, differences, bytes_of, line_bytes, lines_bytes, twice, is_bad, falls, Compared, uncompared, differ, fitted, compare, compared_bytes, compared_lent}
use Rattle.rules_diff.specs.Claims.{Good, Rising, Checks, Writes, LineBytes, Sees, listed_as, entries_as, WholeRows, Listings}

-- no pair twice
differ_once : (a b : Pair) → same_pair a b ≡ false → a ≢ b
differ_once a b h e = clash (subst (λ (q : Pair). same_pair a q ≡ true) e (same_self a)) h

once_differ : (a b : Pair) → a ≢ b → same_pair a b ≡ false
once_differ a b h = refute (same_pair a b) (λ e. absurd (h (same_eq a b e)))

once : (ps : List Pair) → twice ps ≡ false → Pairwise (λ (a b : Pair). a ≢ b) ps
unfolding twice holds
once [] h = pairwise_nil
once (a ∷ ps) h =
    pairwise_cons (all_map (differ_once a) (any_none (same_pair a) ps (or_left (holds ps a) (twice ps) h))) (once ps (or_right (holds ps a) (twice ps) h))

not_twice : {ps : List Pair} → Pairwise (λ (a b : Pair). a ≢ b) ps → twice ps ≡ false
unfolding twice holds
not_twice pairwise_nil = refl
not_twice (pairwise_cons {x = a} {xs = ps} h hs) = or_false (holds ps a) (twice ps) (none_any (same_pair a) (all_map (once_differ a) h)) (not_twice hs)

-- good rows are those that are not bad
pub good_row : (r : NodeRow) → is_bad r ≡ false → Good r
unfolding is_bad
good_row r h =
    let place = leb 1 r.position && ltb r.position max_nodes in
    let few = ltb max_pairs (length r.pairs) in
    let front = or_left (not place || few) (twice r.pairs) h in
    let there = not_false place (or_left (not place) few front) in
    record {
      low = leb-true 1 r.position (and_left (leb 1 r.position) (ltb r.position max_nodes) there);
      high = let l = ltb-true r.position max_nodes (and_right (leb 1 r.position) (ltb r.position max_nodes) there) in omega arith;
      few = ltb-false max_pairs (length r.pairs) (or_right (not place) few front);
      once = once r.pairs (or_right (not place || few) (twice r.pairs) h);
    }

not_bad : (r : NodeRow) → Good r → is_bad r ≡ false
unfolding is_bad
not_bad r g =
    let a = le-leb 1 r.position g.low in
    let b = lt-ltb r.position max_nodes (omega (arith, g.high)) in
    let c = le-ltb max_pairs (length r.pairs) g.few in
    let d = not_twice g.once in
    rw (a, b, c, d) refl

pub all_good : (rs : List NodeRow) → any is_bad rs ≡ false → All Good rs
all_good rs h = all_map good_row (any_none is_bad rs h)

pub none_bad : {rs : List NodeRow} → All Good rs → any is_bad rs ≡ false
none_bad h = none_any is_bad (all_map not_bad h)

-- rising rows are those that do not fall
abbrev pub Behind : ℕ → NodeRow → Type 0
Behind last r = last < r.position

pub rises : (last : ℕ) (rs : List NodeRow) → falls last rs ≡ false → All (Behind last) rs × Rising rs
unfolding falls
rises last [] h = (all_nil, pairwise_nil)
rises last (r ∷ rs) h =
    let l = leb-false r.position last (or_left (leb r.position last) (falls r.position rs) h) in
    let later = rises r.position rs (or_right (leb r.position last) (falls r.position rs) h) in
    (all_cons l (all_map (λ (q : NodeRow) (m : Behind r.position q). omega (arith, m, l)) later.0), pairwise_cons later.0 later.1)

not_falling : (last : ℕ) (rs : List NodeRow) → All (Behind last) rs → Rising rs → falls last rs ≡ false
unfolding falls
not_falling last [] h k = refl
not_falling last (r ∷ rs) h k =
    or_false (leb r.position last) (falls r.position rs) (lt-leb r.position last (all_head h)) (not_falling r.position rs (pairwise_head k) (pairwise_tail k))

pub all_rising : (rs : List NodeRow) → falls 0 rs ≡ false → Rising rs
all_rising rs h = (rises 0 rs h).1

pub none_falls : {rs : List NodeRow} → All Good rs → Rising rs → falls 0 rs ≡ false
none_falls {rs} g k = not_falling 0 rs (all_map (λ (r : NodeRow) (m : Good r). m.low) g) k

-- a line has six bytes
pub six : (ls : List Line) → length (lines_bytes ls) ≡ 6 * length ls
unfolding lines_bytes collect line_bytes bytes_of two
six [] = refl
six (l ∷ ls) = let e = six ls in let f = length-append (line_bytes l) (collect line_bytes ls) in omega (arith, one l)
  where
    one : (m : Line) → length (line_bytes m) ≡ 6
    one (position_gone x) = refl
    one (position_new x a) = refl
    one (address_changed x a) = refl
    one (pair_gone x p) = refl
    one (pair_new x p) = refl

two_bytes : (high low : ℕ) → high < 256 → low < 256 → two (256 * high + low) ≡ high ∷ low ∷ []
unfolding two
two_bytes high low h l =
    let a : (256 * high + low) / 256 % 256 ≡ high = omega arith in
    let b : (256 * high + low) % 256 ≡ low = omega arith in
    rw (a, b) refl

pub bytes_of_lines : (x : ℕ) → LineBytes x
unfolding line_bytes lines_bytes collect bytes_of two
bytes_of_lines x =
    record {
      gone = refl;
      new = λ high low h l. ap (λ (b : List ℕ). 2 ∷ x ∷ b ++ 0 ∷ 0 ∷ []) (two_bytes high low h l);
      changed = λ high low h l. ap (λ (b : List ℕ). 3 ∷ x ∷ b ++ 0 ∷ 0 ∷ []) (two_bytes high low h l);
      gone_pair = λ p. refl;
      new_pair = λ p. refl;
      none = refl;
      more = λ l ls. refl;
    }

-- the ways of a comparison, in their order
module _ (f s : List NodeRow) (room : ℕ) where
  bad_rows : (any is_bad f || any is_bad s) ≡ true → compare f s room ≡ uncompared 2
  unfolding compare
  bad_rows e = cond_true _ _ e

  module _ (g : All Good f) (h : All Good s) where
    no_bad : (any is_bad f || any is_bad s) ≡ false
    no_bad = or_false (any is_bad f) (any is_bad s) (none_bad g) (none_bad h)

    falling_rows : (falls 0 f || falls 0 s) ≡ true → compare f s room ≡ uncompared 20
    unfolding compare
    falling_rows e = cond_false _ _ no_bad ∙ cond_true _ _ e

    module _ (k : Rising f) (l : Rising s) where
      pub compared : compare f s room ≡ fitted (differences f s) room
      unfolding compare
      compared = cond_false _ _ no_bad ∙ cond_false _ _ (or_false (falls 0 f) (falls 0 s) (none_falls g k) (none_falls h l))

pub short : (ls : List Line) (room : ℕ) → room < 6 * length ls → fitted ls room ≡ uncompared 21
unfolding fitted
short ls room l = cond_true _ _ (lt-ltb room (length (lines_bytes ls)) (omega (arith, six ls)))

pub enough : (ls : List Line) (room : ℕ) → 6 * length ls ≤ room → fitted ls room ≡ differ ls
unfolding fitted
enough ls room l = cond_false _ _ (le-ltb room (length (lines_bytes ls)) (omega (arith, six ls)))

pub checks : (f s : List NodeRow) (room : ℕ) → Checks f s room
checks f s room =
    record {
      malformed = λ h. bad_rows f s room (not_none (any is_bad f) (any is_bad s) (λ a b. h (all_good f a) (all_good s b)));
      unordered = λ g h k. falling_rows f s room g h (not_none (falls 0 f) (falls 0 s) (λ a b. k (all_rising f a) (all_rising s b)));
      no_room = λ g h k l m. compared f s room g h k l ∙ short (differences f s) room m;
      fits = λ g h k l m. compared f s room g h k l ∙ enough (differences f s) room m;
    }
  where
    not_none : (a b : Bool) → (a ≡ false → b ≡ false → ⊥) → a || b ≡ true
    not_none true b h = refl
    not_none false true h = refl
    not_none false false h = absurd (h refl refl)

-- what is compared, is compared of good rows that rise, and fits
pub record Fitting (f s : List NodeRow) (ls : List Line) (n : ℕ) : Type 0 where
  pub first : All Good f
  pub second : All Good s
  pub lines : ls ≡ differences f s
  pub room : 6 * length ls ≤ n

is_uncompared : Compared → Bool
is_uncompared (uncompared n) = true
is_uncompared (differ ls) = false

not_told : {X : Type 0} {n : ℕ} {ls : List Line} → uncompared n ≡ differ ls → X
unfolding is_uncompared
not_told e = clash refl (ap is_uncompared e)

lines_in : Compared → List Line
lines_in (uncompared n) = []
lines_in (differ ls) = ls

told_fits : (ls ms : List Line) (room : ℕ) → fitted ms room ≡ differ ls → (ls ≡ ms) × (6 * length ls ≤ room)
unfolding fitted lines_in
told_fits ls ms room h = go (ltb room (length (lines_bytes ms))) refl h
  where
    go : (b : Bool) → ltb room (length (lines_bytes ms)) ≡ b → cond b (uncompared 21) (differ ms) ≡ differ ls → (ls ≡ ms) × (6 * length ls ≤ room)
    go true e h = not_told h
    go false e h =
        let same : ls ≡ ms = sym (ap lines_in h) in
        let long = ltb-false room (length (lines_bytes ms)) e in
        let n = six ms in
        let m = ap length same in
        (same, omega arith)

pub fitting : (f s : List NodeRow) (ls : List Line) (room : ℕ) → compare f s room ≡ differ ls → Fitting f s ls room
unfolding compare
fitting f s ls room h = go (any is_bad f || any is_bad s) refl (falls 0 f || falls 0 s) refl h
  where
    go : (b : Bool) → (any is_bad f || any is_bad s) ≡ b → (c : Bool) → (falls 0 f || falls 0 s) ≡ c
        → cond b (uncompared 2) (cond c (uncompared 20) (fitted (differences f s) room)) ≡ differ ls → Fitting f s ls room
    go true e c d h = not_told h
    go false e true d h = not_told h
    go false e false d h =
        let t = told_fits ls (differences f s) room h in
        record {
          first = all_good f (or_left (any is_bad f) (any is_bad s) e);
          second = all_good s (or_right (any is_bad f) (any is_bad s) e);
          lines = t.0;
          room = t.1;
        }

pub writes : (f s : List NodeRow) (lent : List ℕ) → Writes f s lent
unfolding compared_lent compared_bytes
writes f s lent =
    record {
      refused = λ n e. ap (compared_lent lent) e;
      told = λ ls e.
          let t = fitting f s ls (length lent) e in
          let n = six ls in
          ap (compared_lent lent) e ∙ sets_start lent (lines_bytes ls) (omega (arith, t.room)) ∙ ap (λ (k : ℕ). lines_bytes ls ++ drop k lent) n;
    }

-- what a list has at a position
module _ (x : ℕ) where
  not_seen : {rs : List NodeRow} → All (λ (q : NodeRow). q.position ≢ x) rs → seen_at x rs ≡ absent
  unfolding seen_at
  not_seen all_nil = refl
  not_seen (all_cons {x = r} {xs = rs} h hs) = cond_false _ _ (ne_eqb x r.position (λ e. h (sym e))) ∙ not_seen hs

  seen : {front : List NodeRow} (r : NodeRow) (back : List NodeRow) → All (λ (q : NodeRow). q.position ≢ x) front → r.position ≡ x
      → seen_at x (front ++ r ∷ back) ≡ present r.address r.pairs
  unfolding seen_at
  seen r back all_nil e = cond_true _ _ (eq-eqb x r.position (sym e))
  seen r back (all_cons {x = q} h hs) e = cond_false _ _ (ne_eqb x q.position (λ d. h (sym d))) ∙ seen r back hs e

pub sees : (rs : List NodeRow) (x : ℕ) → Sees rs x
sees rs x = record { nobody = not_seen x; somebody = λ front r back e h d. ap (seen_at x) e ∙ seen x r back h d }

-- the rows of a ring picture
positions_from : (x : ℕ) (rows : List Row) → map listed_as (listed_rows_from x rows) ≡ listed_from x rows
unfolding listed_rows_from listed_from listed_row listed_of listed_as
positions_from x [] = refl
positions_from x (r ∷ rows) = go (kept_in r) (positions_from (suc x) rows)
  where
    go : (k : Kept) → map listed_as (listed_rows_from (suc x) rows) ≡ listed_from (suc x) rows
        → map listed_as (listed_row x k ++ listed_rows_from (suc x) rows) ≡ listed_of x k ++ listed_from (suc x) rows
    go nothing e = e
    go (kept a ps) e = ap (◌∷◌ (record { position = x; address = a })) e

entries_from_lem : (x : ℕ) (rows : List Row) → collect entries_as (listed_rows_from x rows) ≡ entries_from x rows
unfolding listed_rows_from entries_from listed_row entries_of entries_as collect
entries_from_lem x [] = refl
entries_from_lem x (r ∷ rows) = go (kept_in r) (entries_from_lem (suc x) rows)
  where
    go : (k : Kept) → collect entries_as (listed_rows_from (suc x) rows) ≡ entries_from (suc x) rows
        → collect entries_as (listed_row x k ++ listed_rows_from (suc x) rows) ≡ entries_of x k ++ entries_from (suc x) rows
    go nothing e = e
    go (kept a ps) e = ap (λ (l : List Entry). map (entry x a) ps ++ l) e

pub whole_rows : (p : Picture) → WholeRows p
unfolding listed_rows listed_positions listing
whole_rows p = record { positions = positions_from 1 p.rows; entries = entries_from_lem 1 p.rows }

-- of sound rows they are good and rise
from_good : (x : ℕ) (rows : List Row) → 1 ≤ x → x + length rows ≤ max_nodes → All RowProper rows → All Good (listed_rows_from x rows)
unfolding listed_rows_from listed_row
from_good x [] l m h = all_nil
from_good x (r ∷ rows) l m h = all_append (one (kept_in r) (all_head h)) (from_good (suc x) rows (omega arith) (omega arith) (all_tail h))
  where
    one : (k : Kept) → Proper k → All Good (listed_row x k)
    one nothing h = all_nil
    one (kept a ps) h = all_cons (record { low = l; high = omega arith; few = h.1; once = pairwise_map h.0 }) all_nil
      where
        pairwise_map : {qs : List Pair} → Pairwise Differ qs → Pairwise (λ (a b : Pair). a ≢ b) qs
        pairwise_map pairwise_nil = pairwise_nil
        pairwise_map (pairwise_cons {x = a} h hs) = pairwise_cons (all_map (differ_once a) h) (pairwise_map hs)

from_rising : (x : ℕ) (rows : List Row) → All (λ (r : NodeRow). x ≤ r.position) (listed_rows_from x rows) × Rising (listed_rows_from x rows)
unfolding listed_rows_from listed_row
from_rising x [] = (all_nil, pairwise_nil)
from_rising x (r ∷ rows) = go (kept_in r) (from_rising (suc x) rows)
  where
    go : (k : Kept) → All (λ (q : NodeRow). suc x ≤ q.position) (listed_rows_from (suc x) rows) × Rising (listed_rows_from (suc x) rows)
        → All (λ (q : NodeRow). x ≤ q.position) (listed_row x k ++ listed_rows_from (suc x) rows) × Rising (listed_row x k ++ listed_rows_from (suc x) rows)
    go nothing h = (all_map (λ (q : NodeRow) (l : suc x ≤ q.position). omega (arith, l)) h.0, h.1)
    go (kept a ps) h =
        let here : x ≤ x = omega arith in
        (all_cons here (all_map (λ (q : NodeRow) (l : suc x ≤ q.position). omega (arith, l)) h.0), pairwise_cons h.0 h.1)

module _ (l : ℕ) (rs : List Record) where
  sound_rows : SoundRows (after (fresh l) rs).rows
  sound_rows = (along Running running_taken (fresh l) [] rs (running_fresh l)).sound.rows

  picture_good : All Good (listed_rows (after (fresh l) rs))
  unfolding listed_rows
  picture_good = from_good 1 (after (fresh l) rs).rows (omega arith) (omega (arith, sound_rows.few)) sound_rows.proper

  picture_rising : Rising (listed_rows (after (fresh l) rs))
  unfolding listed_rows
  picture_rising = (from_rising 1 (after (fresh l) rs).rows).1

number_in : Compared → ℕ
number_in (uncompared n) = n
number_in (differ ls) = 21

only_room : (ls : List Line) (room n : ℕ) → fitted ls room ≡ uncompared n → n ≡ 21
unfolding fitted number_in
only_room ls room n h = go (ltb room (length (lines_bytes ls))) h
  where
    go : (b : Bool) → cond b (uncompared 21) (differ ls) ≡ uncompared n → n ≡ 21
    go true h = sym (ap number_in h)
    go false h = sym (ap number_in h)

pub listings : (l m : ℕ) (rs qs : List Record) (room : ℕ) → Listings l m rs qs room
listings l m rs qs room =
    record {
      good = picture_good l rs;
      rising = picture_rising l rs;
      compared = λ n e.
          only_room _ room n
          (sym (compared _ _ room (picture_good l rs) (picture_good m qs) (picture_rising l rs) (picture_rising m qs)) ∙ e);
    }

-- 21 is given to good rows, for too little room
not_21 : {X : Type 0} {n : ℕ} → n < 21 → uncompared n ≡ uncompared 21 → X
unfolding number_in
not_21 l e = let z : 1 ≤ 0 = omega (arith, ap number_in e, l) in absurd (not-suc-le-zero z)

pub refused_21 : (f s : List NodeRow) (room : ℕ) → compare f s room ≡ uncompared 21 → All Good f × All Good s × (room < 6 * length (differences f s))
unfolding compare
refused_21 f s room h = go (any is_bad f || any is_bad s) refl (falls 0 f || falls 0 s) refl h
  where
    ls : List Line
    ls = differences f s

    tight : (leb (6 * length ls) room ≡ true) ⊎ (leb (6 * length ls) room ≡ false) → fitted ls room ≡ uncompared 21 → room < 6 * length ls
    tight (inl e) h = not_told (sym h ∙ enough ls room (leb-true (6 * length ls) room e))
    tight (inr e) h = leb-false (6 * length ls) room e

    go : (b : Bool) → (any is_bad f || any is_bad s) ≡ b → (c : Bool) → (falls 0 f || falls 0 s) ≡ c
        → cond b (uncompared 2) (cond c (uncompared 20) (fitted ls room)) ≡ uncompared 21 → All Good f × All Good s × (room < 6 * length ls)
    go true e c d h = not_21 (omega arith) h
    go false e true d h = not_21 (omega arith) h
    go false e false d h =
        (all_good f (or_left (any is_bad f) (any is_bad s) e), all_good s (or_right (any is_bad f) (any is_bad s) e), tight (decide (leb (6 * length ls) room)) h)
