-- Every SET answers the announcement at hand and offers a number that is free.
use Prim.Native.Nat.{ℕ, zero, suc, ◌-◌, ◌/◌}
use mathlib.Core.Path.{◌≡◌, refl, sym, ◌∙◌, ap, subst}
use mathlib.Core.Bool.{Bool, true, false, cond, ◌&&◌, ◌||◌}
use mathlib.Core.List.{List, [], ◌∷◌, ◌++◌, map}
use mathlib.Core.Option.{Option, none, some}
use native.Mathlib.Omega.{arith}
use borrow.Author.Tests.{eq-eqb}
use lib.Dec.{ltb}
use lib.ListN.{length, drop}
use lib.Seq.{take_at}
use Rattle.laws.specs.Lists.{any, collect}
use Rattle.laws.specs.Bools.{or_left, or_right, or_false, or_true_left, or_true_right, on_cond}
use Rattle.laws.specs.Alls.{All, all_nil, all_cons, all_append, all_map, all_in, all_everywhere, all_collect, any_none, none_any, any_drop, all_mapped, all_of}
use Rattle.rules.specs.House.{max_tries, max_silences}
use Rattle.rules.specs.Picture.{Pair, same_pair, holds, Row, Picture, with_rows, with_state, with_delay, Kept, kept_by, pairs_of, pairs_in, has_address, keeps, no_row, row_at, is_open, is_ok, is_silent, Seat, seat_at, others, put}
use Rattle.rules.specs.Event.{Event, START, NCE, SHUTDOWN, ANSWER, NONE, DELAY, decode}
use Rattle.rules.specs.Order.{Order, ASK, OK, NOTOK, NEW, INVALID, WAIT_SHORT, WAIT_LONG}
use Rattle.rules.specs.Renumber.{Judged, is_good, judge, goods, free_number, Renumbering, finished, renumbers, offer, renumber_from, renumber, place_of, tries_of}
use Rattle.rules.specs.Listing.{listed_pairs}
use Rattle.rules.specs.Step.{Packing, rows_separately, across_rows, Change, asks, scan, begin, rescan, shut_down, change_rows, delay_ends, set_order, judged_for, renumbering_for, listed_row, keep_answer}
use Rattle.rules.specs.Ending.{becomes_ok, waits, ok_order, tell, packed, lost, gained, tell_rows, told_by, told, wait_order, settled, ended, end_orders, orders_of, picture_of}
use Rattle.rules.specs.Run.{Outcome, Record, left, Sent, sent_with, sent_by}
use Rattle.rules.specs.Claims.{if_taken, accepted, SetAimed, Aimed, SetsAimed}
use Rattle.rules.proofs.Ways.{Ways, Seated, every_taken, Offered, was_refused, was_taken, offered_cases}
use Rattle.rules.proofs.Sound.{kept_after}
use Rattle.rules.proofs.Questions.{row_in}
use Rattle.rules.proofs.Pairs.{same_self}
use Rattle.rules.proofs.Free.{Free, free_number_lem}

-- what a renumbering renumbers is one of the judged pairs, and the number is the free one
abbrev Offers : (ℕ → Option ℕ) → List Judged → Renumbering → Type 0
Offers free js finished = Unit {0}
Offers free js (renumbers i t a n) = (any (λ (j : Judged). same_pair a j.pair) js ≡ true) × (free a.block ≡ some n)

offers : (free : ℕ → Option ℕ) (place tries : ℕ) (js : List Judged) → Offers free js (renumber_from free place tries js)
unfolding renumber_from offer any
offers free place tries [] = tt
offers free place tries (j ∷ js) = good j.good (renumber_from free (suc place) 0 js) (behind (renumber_from free (suc place) 0 js) (offers free (suc place) 0 js))
  where
    behind : (n : Renumbering) → Offers free js n → Offers free (j ∷ js) n
    behind finished h = tt
    behind (renumbers i t a n) h = (or_true_right (same_pair a j.pair) _ h.0, h.1)

    offered_one : (o : Option ℕ) → free j.pair.block ≡ o → (rest : Renumbering) → Offers free (j ∷ js) rest
        → Offers free (j ∷ js) (offer place tries j.pair o rest)
    offered_one none e rest h = h
    offered_one (some n) e rest h = (or_true_left (same_pair j.pair j.pair) _ (same_self j.pair), e)

    bad : (b : Bool) (rest : Renumbering) → Offers free (j ∷ js) rest
        → Offers free (j ∷ js) (cond b (offer place tries j.pair (free j.pair.block) rest) rest)
    bad true rest h = offered_one (free j.pair.block) refl rest h
    bad false rest h = h

    good : (b : Bool) (rest : Renumbering) → Offers free (j ∷ js) rest
        → Offers free (j ∷ js) (cond b rest (cond (ltb tries max_tries) (offer place tries j.pair (free j.pair.block) rest) rest))
    good true rest h = h
    good false rest h = bad (ltb tries max_tries) rest h

judged_any : (a : Pair) (elsewhere earlier ps : List Pair) → any (λ (j : Judged). same_pair a j.pair) (judge elsewhere earlier ps) ≡ holds ps a
unfolding any judge holds
judged_any a elsewhere earlier [] = refl
judged_any a elsewhere earlier (b ∷ ps) = ap (λ (t : Bool). same_pair a b || t) (judged_any a elsewhere (b ∷ earlier) ps)

-- good pairs are announced pairs
goods_held : (a : Pair) (elsewhere earlier ps : List Pair) → holds ps a ≡ false → holds (goods (judge elsewhere earlier ps)) a ≡ false
unfolding goods judge holds any
goods_held a elsewhere earlier [] h = refl
goods_held a elsewhere earlier (b ∷ ps) h = go (is_good elsewhere earlier b) (goods (judge elsewhere (b ∷ earlier) ps)) (goods_held a elsewhere (b ∷ earlier) ps (or_right (same_pair a b) _ h))
  where
    go : (t : Bool) (gs : List Pair) → any (same_pair a) gs ≡ false → any (same_pair a) (cond t (b ∷ gs) gs) ≡ false
    go true gs k = or_false (same_pair a b) _ (or_left (same_pair a b) _ h) k
    go false gs k = k

-- a property of every order that is no SET
record Plain (P : Order → Type 0) : Type 0 where
  ask : (x : ℕ) → P (ASK x)
  ok : P OK
  notok : P NOTOK
  new : (ps : List Pair) → P (NEW ps)
  invalid : (ps : List Pair) → P (INVALID ps)
  short : P WAIT_SHORT
  long : P WAIT_LONG

module _ (P : Order → Type 0) (h : Plain P) where
  all_asks : (f : Row → Bool) (x : ℕ) (rows : List Row) → All P (asks f x rows)
  unfolding asks
  all_asks f x [] = all_nil
  all_asks f x (r ∷ rows) = go (f r) (all_asks f (suc x) rows)
    where
      go : (b : Bool) {os : List Order} → All P os → All P (cond b (ASK x ∷ os) os)
      go true k = all_cons (h.ask x) k
      go false k = k

  all_tell : (order : List Pair → Order) → ((ps : List Pair) → P (order ps)) → (size : ℕ) (ps : List Pair) → All P (tell order size ps)
  unfolding tell
  all_tell order k size ps = all_mapped order {xs = packed (length ps) ((size - 1) / 2) ps} (all_of _ k)

  all_rows : (order : List Pair → Order) → ((ps : List Pair) → P (order ps)) → (pairs : Row → Row → List Pair) (size : ℕ) (bs rest : List Row)
      → All P (tell_rows order pairs size bs rest)
  unfolding tell_rows
  all_rows order k pairs size [] rest = all_nil
  all_rows order k pairs size (b ∷ bs) [] = all_nil
  all_rows order k pairs size (b ∷ bs) (a ∷ rest) = all_append (all_tell order k size (pairs b a)) (all_rows order k pairs size bs rest)

  all_packed : (k : Packing) (p c : Picture) → All P (told_by k p c)
  unfolding told_by
  all_packed rows_separately p c =
      all_append (all_rows INVALID h.invalid lost c.size p.rows c.rows) (all_rows NEW h.new gained c.size p.rows c.rows)
  all_packed across_rows p c = all_tell INVALID h.invalid c.size (listed_pairs p)

  all_told : (k : Packing) (p c : Picture) → All P (told k p c)
  unfolding told
  all_told k p c = on_cond (All P) (is_ok p.state && is_ok c.state) (told_by k p c) [] (λ e. all_packed k p c) (λ e. all_nil)

  all_ok : (p : Picture) → All P (ok_order p)
  unfolding ok_order
  all_ok p = on_cond (All P) (becomes_ok p) (OK ∷ []) [] (λ e. all_cons h.ok all_nil) (λ e. all_nil)

  all_waits : (p : Picture) → All P (wait_order p)
  unfolding wait_order
  all_waits p = go (waits p) (any (λ (r : Row). is_silent r && ltb r.silences max_silences) p.rows)
    where
      go : (b c : Bool) → All P (cond b (cond c WAIT_SHORT WAIT_LONG ∷ []) [])
      go true true = all_cons h.short all_nil
      go true false = all_cons h.long all_nil
      go false c = all_nil

  all_ending : (p : Picture) → All P (end_orders p)
  unfolding end_orders
  all_ending p = all_append (all_ok p) (all_waits (settled p))

  all_orders : (p : Picture) (c : Change) → All P c.first → All P c.set → All P (orders_of p c)
  unfolding orders_of
  all_orders p c f s = all_append (all_append (all_append f (all_told c.packing p c.picture)) s) (all_ending c.picture)

plain_aimed : (e : Option Event) (q : Picture) → Plain (Aimed e q)
plain_aimed e q = record { ask = λ x. tt; ok = tt; notok = tt; new = λ ps. tt; invalid = λ ps. tt; short = tt; long = tt }

-- the row that keeps an answer keeps its address, and no row keeps a pair that is free
keeps_announced : (t : Seat) (x a : ℕ) (ps : List Pair) → x ≡ suc (length t.front) → keeps a (row_at (put t (listed_row t a ps)) x) ≡ true
unfolding keeps listed_row has_address
keeps_announced t x a ps e =
    subst (λ (r : Row). keeps a r ≡ true) (sym (row_in t (listed_row t a ps) x e))
    (subst (λ (k : Kept). has_address a k ≡ true) (sym (kept_after a (goods (judged_for t ps)) (renumbering_for t ps))) (eq-eqb a a refl))

free_everywhere : (t : Seat) (a : ℕ) (ps : List Pair) (g : Pair) → holds (collect pairs_in (others t)) g ≡ false → holds ps g ≡ false
    → (y : ℕ) → holds (pairs_in (row_at (put t (listed_row t a ps)) y)) g ≡ false
unfolding put others row_at pairs_in pairs_of listed_row judged_for no_row kept_by holds any
free_everywhere t a ps g there here zero = refl
free_everywhere t a ps g there here (suc i) =
    all_everywhere {P = λ (r : Row). holds (pairs_in r) g ≡ false} i no_row refl
    (all_in t.front (listed_row t a ps) t.back
    (subst (λ (k : Kept). holds (pairs_of k) g ≡ false) (sym (kept_after a (goods (judged_for t ps)) (renumbering_for t ps))) (goods_held g (collect pairs_in (others t)) [] ps here))
    (all_map (λ (r : Row) (h : All (λ (b : Pair). same_pair g b ≡ false) (pairs_in r)). none_any (same_pair g) h)
    (all_collect pairs_in (others t) (any_none (same_pair g) (collect pairs_in (others t)) there))))

-- another row in the seat leaves the others
others_in : (t : Seat) (r : Row) (x : ℕ) → x ≡ suc (length t.front) → others (seat_at (put t r) x) ≡ others t
unfolding others seat_at put
others_in t r zero e = absurd (omega arith)
others_in t r (suc i) e =
    let f : length t.front ≡ i = omega arith in
    let d : drop (suc i) (t.front ++ r ∷ t.back) ≡ t.back = drop_behind t.front t.back r i f in
    λ k. take_at t.front (r ∷ t.back) i f k ++ d k
  where
    drop_behind : (xs ys : List Row) (r : Row) (i : ℕ) → length xs ≡ i → drop (suc i) (xs ++ r ∷ ys) ≡ ys
    drop_behind [] ys r zero e = refl
    drop_behind [] ys r (suc i) e = absurd (omega arith)
    drop_behind (x ∷ xs) ys r zero e = absurd (omega arith)
    drop_behind (x ∷ xs) ys r (suc i) e = drop_behind xs ys r i (omega arith)

-- the SET of an answer that is kept
set_aimed : (p : Picture) (c x a : ℕ) (ps : List Pair) → Seated p c x
    → All (Aimed (some (ANSWER c x a ps)) (picture_of (keep_answer x a ps (seat_at p.rows x) p))) (set_order x a (renumbering_for (seat_at p.rows x) ps))
unfolding set_order renumbering_for renumber judged_for picture_of ended settled with_state with_delay keep_answer with_rows
set_aimed p c x a ps s = go (renumbering_for t ps) (drop_offers (renumbering_for t ps) (offers (free_number elsewhere ps) (place_of t.row.status) (tries_of t.row.status) (drop (place_of t.row.status) (judge elsewhere [] ps))))
  where
    t : Seat
    t = seat_at p.rows x

    elsewhere : List Pair
    elsewhere = collect pairs_in (others t)

    q : Picture
    q = picture_of (keep_answer x a ps t p)

    drop_offers : (n : Renumbering) → Offers (free_number elsewhere ps) (drop (place_of t.row.status) (judge elsewhere [] ps)) n
        → Offers (free_number elsewhere ps) (judge elsewhere [] ps) n
    drop_offers finished h = tt
    drop_offers (renumbers i u b n) h = (any_drop _ (place_of t.row.status) (judge elsewhere [] ps) h.0, h.1)

    aimed : (b : Pair) (n : ℕ) → holds ps b ≡ true → Free elsewhere ps b.block n → SetAimed (some (ANSWER c x a ps)) q x a b.block b.number n
    aimed b n h f =
        record {
          announced = ps;
          answers = ap (λ (k : ℕ). some (ANSWER k x a ps)) s.current;
          kept = keeps_announced t x a ps s.here;
          named = h;
          low = f.low;
          high = f.high;
          unannounced = f.here;
          unlisted = free_everywhere t a ps _ f.there f.here;
          least = λ m l k. rw (others_in t (listed_row t a ps) x s.here) (f.least m l k);
        }

    go : (n : Renumbering) → Offers (free_number elsewhere ps) (judge elsewhere [] ps) n → All (Aimed (some (ANSWER c x a ps)) q) (set_order x a n)
    go finished h = all_nil
    go (renumbers i u b n) h = all_cons (aimed b n (sym (judged_any b elsewhere [] ps) ∙ h.0) (free_number_lem elsewhere ps b.block n h.1)) all_nil

aimed_ways : (p : Picture) → Ways p (λ (e : Event) (c : Change). All (Aimed (some e) (picture_of c)) (orders_of p c))
unfolding begin scan rescan shut_down change_rows delay_ends keep_answer
aimed_ways p =
    record {
      starts = λ n l. aimed (START n) (begin [] n p) (asks_aimed (START n) (begin [] n p) is_open _) all_nil;
      ring_changes = λ n l i. aimed (NCE n) (begin (NOTOK ∷ []) n p) (all_cons tt (asks_aimed (NCE n) (begin (NOTOK ∷ []) n p) is_open _)) all_nil;
      ring_changes_in_ok = λ n l i. aimed (NCE n) (rescan n p) (asks_aimed (NCE n) (rescan n p) is_open _) all_nil;
      shuts = aimed SHUTDOWN (shut_down p) all_nil all_nil;
      silences = λ c x s o. aimed (NONE c x) _ all_nil all_nil;
      delays = λ c d. aimed (DELAY c) (delay_ends p) (asks_aimed (DELAY c) (delay_ends p) is_silent _) all_nil;
      bars = λ c x a ps s o z. aimed (ANSWER c x a ps) _ all_nil all_nil;
      ignores = λ c x a ps s o counts k z. aimed (ANSWER c x a ps) _ all_nil all_nil;
      restarts = λ c x a ps s o counts b l. aimed (ANSWER c x a ps) (scan (NOTOK ∷ []) _ p) (all_cons tt (asks_aimed (ANSWER c x a ps) (scan (NOTOK ∷ []) _ p) is_open _)) all_nil;
      keeps = λ c x a ps s o k. aimed (ANSWER c x a ps) (keep_answer x a ps (seat_at p.rows x) p) all_nil (set_aimed p c x a ps s);
    }
  where
    aimed : (e : Event) (c : Change) → All (Aimed (some e) (picture_of c)) c.first → All (Aimed (some e) (picture_of c)) c.set
        → All (Aimed (some e) (picture_of c)) (orders_of p c)
    aimed e c = all_orders (Aimed (some e) (picture_of c)) (plain_aimed (some e) (picture_of c)) p c

    asks_aimed : (e : Event) (c : Change) (f : Row → Bool) (rows : List Row) → All (Aimed (some e) (picture_of c)) (asks f 1 rows)
    asks_aimed e c f rows = all_asks (Aimed (some e) (picture_of c)) (plain_aimed (some e) (picture_of c)) f 1 rows

-- every SET that a record gives out
pub sets_aimed : (p : Picture) (r : Record) → SetsAimed p r
unfolding accepted if_taken left sent_by sent_with
sets_aimed p r = record { aimed = go (offered_cases p r) }
  where
    sent : (e : Option Event) (q : Picture) (n : ℕ) (os : List Order) → All (Aimed e q) os
        → All (λ (s : Sent). Aimed e q s.order) (map (sent_with n) os)
    sent e q n os h = all_mapped (sent_with n) h

    go : {o : Outcome} → Offered p r o → All (λ (s : Sent). Aimed (if_taken o (decode r.bytes)) (left p o) s.order) (sent_by o)
    go was_refused = all_nil
    go (was_taken {c} e d m t q) =
        subst (λ (z : Option Event). All (λ (s : Sent). Aimed z (picture_of c) s.order) (map (sent_with (picture_of c).pass) (orders_of p c))) (sym d)
        (sent (some e) (picture_of c) (picture_of c).pass (orders_of p c) (every_taken p _ (aimed_ways p) e c q))
