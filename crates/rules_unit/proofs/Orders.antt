-- Orders are read as they are written, nothing else is read as one, and a run of them is taken apart again.
use Prim.Native.Nat.{ℕ, zero, suc, ◌+◌, ◌*◌, ◌/◌, ◌%◌, ◌≤◌}
use mathlib.Core.Path.{◌≡◌, refl, sym, ◌∙◌, ap, subst}
use mathlib.Core.Bool.{true, ◌&&◌, ◌||◌}
use mathlib.Core.List.{List, [], ◌∷◌, ◌++◌, map, append-nil}
use mathlib.Core.Option.{Option, none, some}
use native.Mathlib.Omega.{arith}
use borrow.Author.Tests.{eqb-true, eq-eqb}
use lib.Dec.{eqb}
use lib.ListN.{length, get_or, drop, length-append, length-drop, drop_of_length-le}
use lib.Seq.{take_at, drop_at}
use Rattle.laws.specs.Lists.{collect, up_from}
use Rattle.laws.specs.Bools.{and_left, and_right, and_true, cond_true, on_cond}
use Rattle.rules.specs.House.{max_pass}
use Rattle.rules.specs.Picture.{Pair}
use Rattle.rules.specs.Event.{be2, be4, two, four, read_pairs, pair_bytes}
use Rattle.rules.specs.Order.{Order, ASK, SET, OK, NOTOK, NEW, INVALID, WAIT_SHORT, WAIT_LONG, kind_of, body_of, encode, encode_all}
use Rattle.rules.specs.Run.{Sent, sent_with}
use Rattle.rules.proofs.Encode.{two_back, four_back, read_back, pairs_length}
use Rattle.rules.proofs.Decode.{two_again, four_again, pairs_again, spelled, Bytes, byte, pass_small, address_small}
use Rattle.rules_unit.specs.Reading.{length_by, order_length, order_by, sent_of, decode_order, orders_from, orders_in}
use Rattle.rules_unit.specs.Claims.{Writable, DecodesOrder, DecodesOrdersOnly, TakesApart}

-- an order as its bytes tell it: of an address the last two bytes
unfoldable pub narrowed : Order → Order
narrowed (ASK x) = ASK x
narrowed (SET x a b o n) = SET x (a / 256 % 256 * 256 + a % 256) b o n
narrowed OK = OK
narrowed NOTOK = NOTOK
narrowed (NEW ps) = NEW ps
narrowed (INVALID ps) = INVALID ps
narrowed WAIT_SHORT = WAIT_SHORT
narrowed WAIT_LONG = WAIT_LONG

-- an order is as long as its kind and its count say, whatever stands behind it
pub own_length : (c : ℕ) (o : Order) (rest : List ℕ) → order_length (encode c o ++ rest) ≡ length (encode c o)
unfolding order_length length_by encode kind_of body_of four two
own_length c (ASK x) rest = refl
own_length c (SET x a b o n) rest = refl
own_length c OK rest = refl
own_length c NOTOK rest = refl
own_length c (NEW ps) rest = let e = pairs_length ps in omega arith
own_length c (INVALID ps) rest = let e = pairs_length ps in omega arith
own_length c WAIT_SHORT rest = refl
own_length c WAIT_LONG rest = refl

whole_length : (c : ℕ) (o : Order) → order_length (encode c o) ≡ length (encode c o)
whole_length c o = ap order_length (sym (append-nil (encode c o))) ∙ own_length c o []

-- mark and length are right, so that the kind decides
by_kind : (c : ℕ) (o : Order) → decode_order (encode c o) ≡ sent_of (be4 (encode c o) 3) (order_by (kind_of o) (encode c o))
unfolding decode_order encode
by_kind c o =
    let b = encode c o in
    cond_true _ none
    (and_true (eqb (length b) (order_length b) && true) true (and_true (eqb (length b) (order_length b)) true (eq-eqb (length b) (order_length b) (sym (whole_length c o))) refl) refl)

pub decode_order_lem : (c : ℕ) (o : Order) → c ≤ max_pass → decode_order (encode c o) ≡ some (sent_with c (narrowed o))
unfolding encode kind_of body_of four two be4 be2 order_by sent_of narrowed
decode_order_lem c (ASK x) h = by_kind c (ASK x) ∙ (λ i. some (sent_with (four_back c h i) (ASK x)))
decode_order_lem c (SET x a b o n) h = by_kind c (SET x a b o n) ∙ (λ i. some (sent_with (four_back c h i) (SET x (a / 256 % 256 * 256 + a % 256) b o n)))
decode_order_lem c OK h = by_kind c OK ∙ (λ i. some (sent_with (four_back c h i) OK))
decode_order_lem c NOTOK h = by_kind c NOTOK ∙ (λ i. some (sent_with (four_back c h i) NOTOK))
decode_order_lem c (NEW ps) h = by_kind c (NEW ps) ∙ (λ i. some (sent_with (four_back c h i) (NEW (read_back ps i))))
decode_order_lem c (INVALID ps) h = by_kind c (INVALID ps) ∙ (λ i. some (sent_with (four_back c h i) (INVALID (read_back ps i))))
decode_order_lem c WAIT_SHORT h = by_kind c WAIT_SHORT ∙ (λ i. some (sent_with (four_back c h i) WAIT_SHORT))
decode_order_lem c WAIT_LONG h = by_kind c WAIT_LONG ∙ (λ i. some (sent_with (four_back c h i) WAIT_LONG))

decode_writable : (c : ℕ) (o : Order) → Writable c o → decode_order (encode c o) ≡ some (sent_with c o)
unfolding narrowed
decode_writable c (ASK x) w = decode_order_lem c (ASK x) w
decode_writable c (SET x a b o n) w = decode_order_lem c (SET x a b o n) w.0 ∙ (λ i. some (sent_with c (SET x (two_back a w.1 i) b o n)))
decode_writable c OK w = decode_order_lem c OK w
decode_writable c NOTOK w = decode_order_lem c NOTOK w
decode_writable c (NEW ps) w = decode_order_lem c (NEW ps) w
decode_writable c (INVALID ps) w = decode_order_lem c (INVALID ps) w
decode_writable c WAIT_SHORT w = decode_order_lem c WAIT_SHORT w
decode_writable c WAIT_LONG w = decode_order_lem c WAIT_LONG w

pub decodes_order : (c : ℕ) (o : Order) → DecodesOrder c o
decodes_order c o = record { decodes = decode_writable c o }

-- a run of orders, each by itself
apart_from : (most c : ℕ) (os : List Order) → length (encode_all c os) ≤ most → orders_from most (encode_all c os) ≡ map (encode c) os
unfolding encode_all collect encode four two orders_from
apart_from zero c [] h = refl
apart_from zero c (o ∷ os) h = absurd (omega arith)
apart_from (suc most) c [] h = refl
apart_from (suc most) c (o ∷ os) h =
    let e = sym (own_length c o (encode_all c os)) in
    let l = length-append (encode c o) (encode_all c os) in
    (λ i. take_at (encode c o) (encode_all c os) _ e i ∷ orders_from most (drop_at (encode c o) (encode_all c os) _ e i))
    ∙ ap (◌∷◌ (encode c o)) (apart_from most c os (omega arith))

pub takes_apart : (c : ℕ) (os : List Order) → TakesApart c os
unfolding orders_in
takes_apart c os = record { apart = apart_from (length (encode_all c os)) c os (omega arith) }

-- every order has its head
pub head_long : (kind count : ℕ) → 7 ≤ length_by kind count
unfolding length_by
head_long kind count =
    on_cond (◌≤◌ 7) (eqb kind 1) 8 _ (λ _. omega arith)
    (λ _. on_cond (◌≤◌ 7) (eqb kind 2) 13 _ (λ _. omega arith)
    (λ _. on_cond (◌≤◌ 7) (eqb kind 5 || eqb kind 6) (8 + 2 * count) 7 (λ _. omega arith) (λ _. omega arith)))

-- what holds of the order that is read, if there is one
abbrev Granted : {A : Type 0} → (A → Type 0) → Option A → Type 0
Granted P none = Unit {0}
Granted P (some s) = P s

granted_sent : (P : Sent → Type 0) (c : ℕ) (m : Option Order) → Granted (λ (o : Order). P (sent_with c o)) m → Granted P (sent_of c m)
unfolding sent_of
granted_sent P c none h = tt
granted_sent P c (some o) h = h

module _ (b : List ℕ) (h : Bytes b) (fit : length b ≡ order_length b) (m : get_or b 0 0 ≡ 0x4D) (n : get_or b 1 0 ≡ 0x4F) where
  abbrev P : Order → Type 0
  P o = (b ≡ encode (be4 b 3) o) × Writable (be4 b 3) o

  -- the head with the mark, and what stands behind it
  again : (o : Order) → get_or b 2 0 ≡ kind_of o → drop 7 b ≡ body_of o → b ≡ encode (be4 b 3) o
  unfolding encode be4 be2 up_from order_length
  again o k d =
      let l : 7 ≤ length b = omega (arith, fit, head_long (get_or b 2 0) (get_or b 7 0)) in
      let e = four_again (get_or b 3 0) (get_or b 4 0) (get_or b 5 0) (get_or b 6 0) (byte b h 3) (byte b h 4) (byte b h 5) (byte b h 6) in
      spelled b 0 7 l ∙ (λ i. m i ∷ n i ∷ k i ∷ sym e i ++ d i)

  fitting : (k : ℕ) → eqb (get_or b 2 0) k ≡ true → length b ≡ length_by k (get_or b 7 0)
  unfolding order_length
  fitting k e = fit ∙ ap (λ (t : ℕ). length_by t (get_or b 7 0)) (eqb-true (get_or b 2 0) k e)

  -- nothing behind the head
  bare : (o : Order) → eqb (get_or b 2 0) (kind_of o) ≡ true → length_by (kind_of o) (get_or b 7 0) ≡ 7 → body_of o ≡ [] → b ≡ encode (be4 b 3) o
  bare o k l e = again o (eqb-true (get_or b 2 0) (kind_of o) k) (let z : length b ≤ 7 = omega (arith, fitting (kind_of o) k, l) in drop_of_length-le b z ∙ sym e)

  -- a count and its pairs
  counted : (o : List Pair → Order) (k : ℕ) → eqb (get_or b 2 0) k ≡ true → ((ps : List Pair) → kind_of (o ps) ≡ k) → length_by k (get_or b 7 0) ≡ 8 + 2 * get_or b 7 0
      → ((ps : List Pair) → body_of (o ps) ≡ length ps ∷ collect pair_bytes ps) → b ≡ encode (be4 b 3) (o (read_pairs (drop 8 b)))
  unfolding up_from
  counted o k e f l g =
      let z = fitting k e in
      let r = pairs_again (get_or b 7 0) (drop 8 b) (rw length-drop (omega arith)) in
      again (o (read_pairs (drop 8 b))) (eqb-true (get_or b 2 0) k e ∙ sym (f (read_pairs (drop 8 b))))
      (spelled b 7 1 (omega arith) ∙ (λ i. sym r.1 i ∷ sym r.0 i) ∙ sym (g (read_pairs (drop 8 b))))

  reads_kind : Granted P (order_by (get_or b 2 0) b)
  unfolding order_by kind_of body_of length_by up_from be2
  reads_kind =
      let k = get_or b 2 0 in
      let c = pass_small b h in
      on_cond (Granted P) (eqb k 1) _ _
      (λ e. let l = fitting 1 e in let z : length b ≤ 8 = omega arith in (again (ASK (get_or b 7 0)) (eqb-true k 1 e) (spelled b 7 1 (omega arith) ∙ ap (λ (t : List ℕ). get_or b 7 0 ∷ t) (drop_of_length-le b z)), c))
      (λ _. on_cond (Granted P) (eqb k 2) _ _
      (λ e.
      let l = fitting 2 e in
      let z : length b ≤ 13 = omega arith in (
        again (SET (get_or b 7 0) (be2 b 8) (get_or b 10 0) (get_or b 11 0) (get_or b 12 0)) (eqb-true k 2 e)
            (spelled b 7 6 (omega arith)
            ∙ (λ i. get_or b 7 0 ∷ sym (two_again (get_or b 8 0) (get_or b 9 0) (byte b h 8) (byte b h 9)) i ++ get_or b 10 0 ∷ get_or b 11 0 ∷ get_or b 12 0 ∷ drop_of_length-le b z i)),
        (c, address_small b h),
      ))
      (λ _. on_cond (Granted P) (eqb k 3) _ _ (λ e. (bare OK e refl refl, c))
      (λ _. on_cond (Granted P) (eqb k 4) _ _ (λ e. (bare NOTOK e refl refl, c))
      (λ _. on_cond (Granted P) (eqb k 5) _ _ (λ e. (counted NEW 5 e (λ ps. refl) refl (λ ps. refl), c))
      (λ _. on_cond (Granted P) (eqb k 6) _ _ (λ e. (counted INVALID 6 e (λ ps. refl) refl (λ ps. refl), c))
      (λ _. on_cond (Granted P) (eqb k 7) _ _ (λ e. (bare WAIT_SHORT e refl refl, c))
      (λ _. on_cond (Granted P) (eqb k 8) _ none (λ e. (bare WAIT_LONG e refl refl, c)) (λ _. tt))))))))

reads_order : (b : List ℕ) → Bytes b → Granted (λ (s : Sent). (b ≡ encode s.pass s.order) × Writable s.pass s.order) (decode_order b)
unfolding decode_order sent_with
reads_order b h =
    let fits = eqb (length b) (order_length b) in
    let first = eqb (get_or b 0 0) 0x4D in
    let second = eqb (get_or b 1 0) 0x4F in
    on_cond (Granted (λ (s : Sent). (b ≡ encode s.pass s.order) × Writable s.pass s.order)) (fits && first && second) _ none
    (λ t.
    let u = and_left (fits && first) second t in
    granted_sent _ (be4 b 3) (order_by (get_or b 2 0) b)
    (reads_kind b h (eqb-true _ _ (and_left fits first u)) (eqb-true _ _ (and_right fits first u)) (eqb-true _ _ (and_right (fits && first) second t))))
    (λ _. tt)

pub decodes_orders_only : (b : List ℕ) → DecodesOrdersOnly b
decodes_orders_only b =
    record { only = λ h s e. subst (Granted (λ (s : Sent). (b ≡ encode s.pass s.order) × Writable s.pass s.order)) e (reads_order b h) }
