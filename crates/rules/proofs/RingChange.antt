-- START and NCE, order for order.
use Prim.Native.Nat.{ℕ, zero, suc, ◌-◌, ◌/◌, ◌≤◌, ◌<◌, min}
use mathlib.Core.Path.{◌≡◌, refl, sym, ◌∙◌, ap, subst}
use mathlib.Core.Bool.{Bool, true, false, cond, not, ◌&&◌}
use mathlib.Core.List.{List, [], ◌∷◌, ◌++◌, map, append-nil}
use mathlib.Core.Option.{some}
use mathlib.Core.Logic.{◌⊎◌, inl, inr}
use native.Mathlib.Omega.{arith}
use borrow.Author.Tests.{leb-true, leb-false, le-ltb, lt-leb}
use lib.Dec.{leb}
use lib.ListN.{length, take, drop, replicate, length-take, length-drop, take-append-drop}
use Rattle.laws.specs.Lists.{any, collect, up_from}
use Rattle.laws.specs.Bools.{decide, and_none, cond_false}
use Rattle.rules.specs.House.{min_room, max_pass}
use Rattle.rules.specs.Picture.{State, NotOk, Ok, is_not_ok, is_ok, Pair, Row, Picture, with_state, with_delay, is_open, is_open_status, is_silent, is_silent_status, new_row, fresh}
use Rattle.rules.specs.Event.{Event, START, NCE, decode}
use Rattle.rules.specs.Order.{Order, ASK, OK, NOTOK, INVALID}
use Rattle.rules.specs.Step.{Change, rows_separately, across_rows, change, refuse_if, asks, scanned, scan, begin, rescanned, rescan, network_change, takes, respond}
use Rattle.rules.specs.Listing.{listed_pairs}
use Rattle.rules.specs.Ending.{becomes_ok, settled, ok_order, packed, tell, told_by, told, waits, wait_order, ended, end_orders, orders_of, picture_of}
use Rattle.rules.specs.Run.{taken, on_event, on_decoded, concluded, step, Record, offered, after}
use Rattle.rules.specs.Claims.{Full, no_order_lem, last_order, full_order, begun, Begins, KeepsOk, RingChange}
use Rattle.rules.proofs.Ways.{refuse_if_false}
use Rattle.rules.proofs.Along.{along}
use Rattle.rules.proofs.Runs.{Running, running_fresh, running_taken}
use Rattle.rules.proofs.Sizes.{open_no_ok, open_no_wait, told_none}

-- pairs that are packed come out again, one behind the other
pub packed_all : (most cap : ℕ) (ps : List Pair) → 1 ≤ cap → length ps ≤ most → collect (λ (q : List Pair). q) (packed most cap ps) ≡ ps
unfolding packed collect
packed_all zero cap [] h l = refl
packed_all zero cap (a ∷ ps) h l = absurd (omega arith)
packed_all (suc most) cap [] h l = refl
packed_all (suc most) cap (a ∷ ps) h l =
    let e : length (drop cap (a ∷ ps)) ≡ length (a ∷ ps) - cap = length-drop cap (a ∷ ps) in
    ap (λ (r : List Pair). take cap (a ∷ ps) ++ r) (packed_all most cap (drop cap (a ∷ ps)) h (omega arith)) ∙ take-append-drop cap (a ∷ ps)

-- in orders that are full but for the last
packed_none : (most cap : ℕ) (ps : List Pair) → length ps ≡ 0 → packed most cap ps ≡ []
unfolding packed
packed_none zero cap ps h = refl
packed_none (suc most) cap [] h = refl
packed_none (suc most) cap (a ∷ ps) h = absurd (omega arith)

packed_full : (most cap : ℕ) (ps : List Pair) → 1 ≤ cap → Full cap (packed most cap ps)
unfolding packed
packed_full zero cap ps h = no_order_lem
packed_full (suc most) cap [] h = no_order_lem
packed_full (suc most) cap (a ∷ ps) h = go (decide (leb (length (a ∷ ps)) cap)) (packed_full most cap (drop cap (a ∷ ps)) h)
  where
    taken_length : length (take cap (a ∷ ps)) ≡ min cap (length (a ∷ ps))
    taken_length = length-take cap (a ∷ ps)

    left_length : length (drop cap (a ∷ ps)) ≡ length (a ∷ ps) - cap
    left_length = length-drop cap (a ∷ ps)

    go : (leb (length (a ∷ ps)) cap ≡ true) ⊎ (leb (length (a ∷ ps)) cap ≡ false)
        → Full cap (packed most cap (drop cap (a ∷ ps))) → Full cap (take cap (a ∷ ps) ∷ packed most cap (drop cap (a ∷ ps)))
    go (inl e) rest =
        let k : length (a ∷ ps) ≤ cap = leb-true _ _ e in
        let l = taken_length in
        let m = left_length in
        subst (λ (r : List (List Pair)). Full cap (take cap (a ∷ ps) ∷ r)) (sym (packed_none most cap _ (omega arith))) (last_order {ps = take cap (a ∷ ps)} (omega arith) (omega arith))
    go (inr e) rest =
        let k : suc cap ≤ length (a ∷ ps) = leb-false _ _ e in
        let l = taken_length in
        full_order {ps = take cap (a ∷ ps)} (omega arith) (omega arith) rest

-- new rows are all asked, and none of them is SILENT
asks_new : (x k : ℕ) → asks is_open x (replicate k new_row) ≡ map ASK (up_from x k)
unfolding asks is_open is_open_status new_row up_from
asks_new x zero = refl
asks_new x (suc k) = ap (λ (os : List Order). ASK x ∷ os) (asks_new (suc x) k)

some_open_lem : (k : ℕ) → 1 ≤ k → any is_open (replicate k new_row) ≡ true
unfolding any is_open is_open_status new_row
some_open_lem zero h = absurd (omega arith)
some_open_lem (suc k) h = refl

none_silent : (k : ℕ) → any is_silent (replicate k new_row) ≡ false
unfolding any is_silent is_silent_status new_row
none_silent zero = refl
none_silent (suc k) = none_silent k

module _ (n : ℕ) (p : Picture) where
  rows : List Row
  rows = replicate (n - 1) new_row

  -- in OK: no OK is given and nobody is waited for
  no_wait : waits (rescanned rows p) ≡ false
  unfolding waits rescanned is_ok rows
  no_wait = ap (λ (b : Bool). not (any is_open rows) && b && true) (none_silent (n - 1)) ∙ ap (λ (b : Bool). b && true) (and_none (not (any is_open rows)))

  rescan_ends : end_orders (rescanned rows p) ≡ []
  unfolding end_orders ok_order becomes_ok settled with_state wait_order rescanned is_not_ok
  rescan_ends = cond_false _ [] no_wait

  rescan_picture : picture_of (rescan n p) ≡ begun Ok n p
  unfolding picture_of rescan rescanned ended settled with_state with_delay becomes_ok is_not_ok rows new_row
  rescan_picture = ap (λ (b : Bool). with_delay b (rescanned rows p)) no_wait

  listed : List (List Pair)
  listed = packed (length (listed_pairs p)) ((p.size - 1) / 2) (listed_pairs p)

  rescan_orders : is_ok p.state ≡ true → orders_of p (rescan n p) ≡ map ASK (up_from 1 (n - 1)) ++ map INVALID listed
  unfolding orders_of rescan rescanned rows told told_by tell is_ok listed
  rescan_orders h =
      ap (λ (os : List Order). asks is_open 1 rows ++ told across_rows p (rescanned rows p) ++ [] ++ os) rescan_ends
      ∙ append-nil (asks is_open 1 rows ++ told across_rows p (rescanned rows p) ++ [])
      ∙ append-nil (asks is_open 1 rows ++ told across_rows p (rescanned rows p))
      ∙ (λ i. asks_new 1 (n - 1) i ++ cond (h i && true) (map INVALID listed) [])

  keeps : is_ok p.state ≡ true → 3 ≤ p.size → KeepsOk n p (concluded p (change (rescan n p)))
  unfolding concluded listed listed_pairs
  keeps h s =
      record {
        told = listed;
        outcome = (λ i. taken (rescan_picture i) (rescan_orders h i));
        in_listing_order = packed_all (length (listed_pairs p)) ((p.size - 1) / 2) (listed_pairs p) (omega arith) (omega arith);
        packed = packed_full (length (listed_pairs p)) ((p.size - 1) / 2) (listed_pairs p) (omega arith);
      }

-- a START, and an NCE in NOTOK: where somebody is asked a question is open, and nothing ends yet
module _ (first : List Order) (n : ℕ) (p : Picture) where
  untold : (begin first n p).first ++ told (begin first n p).packing p (begin first n p).picture ++ (begin first n p).set ≡ first ++ map ASK (up_from 1 (n - 1))
  unfolding begin scan scanned is_ok
  untold =
      append-nil _
      ∙ (λ i. first ++ asks_new 1 (n - 1) i ++ told_none rows_separately p (scanned (replicate (n - 1) new_row) p) refl i)
      ∙ append-nil (first ++ map ASK (up_from 1 (n - 1)))

  -- the picture by whether a question is open
  left_with : Bool → Picture
  left_with b =
      with_delay (is_ok (cond (not b) Ok NotOk) && not b && any is_silent (replicate (n - 1) new_row) && true)
      (with_state (cond (not b) Ok NotOk) (scanned (replicate (n - 1) new_row) p))

  begun_picture : {b : Bool} → any is_open (replicate (n - 1) new_row) ≡ b → picture_of (begin first n p) ≡ left_with b
  unfolding picture_of begin scan scanned ended settled with_state becomes_ok waits is_not_ok left_with
  begun_picture h = ap left_with h

  begun_orders : {os : List Order} → end_orders (begin first n p).picture ≡ os → orders_of p (begin first n p) ≡ first ++ map ASK (up_from 1 (n - 1)) ++ os
  unfolding orders_of
  begun_orders h = (λ i. untold i ++ h i)

  open_rows : 2 ≤ n → any is_open (begin first n p).picture.rows ≡ true
  unfolding begin scan scanned
  open_rows h = some_open_lem (n - 1) (omega arith)

  others : 2 ≤ n → concluded p (change (begin first n p)) ≡ taken (begun NotOk n p) (first ++ map ASK (up_from 1 (n - 1)))
  unfolding concluded left_with with_state with_delay scanned is_ok new_row end_orders begin scan
  others h =
      (λ i. taken (begun_picture (some_open_lem (n - 1) (omega arith)) i)
      ((begun_orders (λ j. open_no_ok (begin first n p).picture (open_rows h) j ++ open_no_wait (begin first n p).picture (open_rows h) j)
      ∙ append-nil (first ++ map ASK (up_from 1 (n - 1)))) i))

begun_alone : (first : List Order) (p : Picture) → concluded p (change (begin first 1 p)) ≡ taken (begun Ok 1 p) (first ++ OK ∷ [])
unfolding concluded left_with with_state with_delay scanned is_ok is_not_ok new_row begin scan any end_orders ok_order becomes_ok wait_order waits settled up_from
begun_alone first p =
    (λ i. taken (begun_picture first 1 p refl i) ((begun_orders first 1 p refl ∙ ap (λ (os : List Order). os ++ OK ∷ []) (append-nil first)) i))

begins : (first : List Order) (n : ℕ) (p : Picture) → Begins first n p (concluded p (change (begin first n p)))
begins first n p =
    record {
      alone = λ h. subst (λ (k : ℕ). concluded p (change (begin first k p)) ≡ taken (begun Ok k p) (first ++ OK ∷ [])) (sym h) (begun_alone first p);
      others = others first n p;
    }

-- the records that bring them
module _ (p : Picture) (r : Record) (e : Event) (d : decode r.bytes ≡ some e) (m : min_room ≤ r.room) (l : p.pass < max_pass) where
  brought : takes p.state e ≡ true → (c : Change) → respond p e ≡ refuse_if (leb max_pass p.pass) 9 (change c) → offered p r ≡ concluded p (change c)
  unfolding step on_decoded on_event
  brought t c q =
      ap (concluded p)
      (refuse_if_false _ _ (le-ltb r.room min_room m) ∙ ap (on_decoded p) d ∙ refuse_if_false _ _ (ap not t) ∙ q ∙ refuse_if_false _ _ (lt-leb max_pass p.pass l))

pub ring_change : (l : ℕ) (rs : List Record) (r : Record) → RingChange (after (fresh l) rs) r
unfolding is_ok takes respond network_change
ring_change l rs r =
    record {
      starts = λ n s d m t. subst (Begins [] n p) (sym (brought p r (START n) d m t (ap (λ (z : State). takes z (START n)) s) (begin [] n p) refl)) (begins [] n p);
      in_not_ok = λ n s d m t. subst (Begins (NOTOK ∷ []) n p)
          (sym (brought p r (NCE n) d m t (ap (λ (z : State). takes z (NCE n)) s) (begin (NOTOK ∷ []) n p)
          (ap (λ (z : State). refuse_if (leb max_pass p.pass) 9 (change (cond (is_ok z) (rescan n p) (begin (NOTOK ∷ []) n p)))) s))) (begins (NOTOK ∷ []) n p);
      in_ok = λ n s d m t. subst (KeepsOk n p)
          (sym (brought p r (NCE n) d m t (ap (λ (z : State). takes z (NCE n)) s) (rescan n p)
          (ap (λ (z : State). refuse_if (leb max_pass p.pass) 9 (change (cond (is_ok z) (rescan n p) (begin (NOTOK ∷ []) n p)))) s))) (keeps n p (ap is_ok s) size);
    }
  where
    p : Picture
    p = after (fresh l) rs

    size : 3 ≤ p.size
    size = let h = (along Running running_taken (fresh l) [] rs (running_fresh l)).sound.size in omega arith
