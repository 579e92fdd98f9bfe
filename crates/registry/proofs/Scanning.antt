-- Scans: a list of ASKs and the ending, behind the orders that stand first.
use Prim.Native.Nat.{ℕ, suc, ◌+◌, ◌-◌, ◌<◌, ◌≤◌}
use mathlib.Core.Path.{◌≡◌, refl, sym, ◌∙◌, ap, subst}
use mathlib.Core.Bool.{Bool, true, false, cond, not}
use mathlib.Core.List.{List, [], ◌∷◌, ◌++◌, append_assoc, append-nil}
use native.Mathlib.Omega.{arith}
use borrow.Author.Tests.{lt-leb, le-leb, eq-eqb, ne_eqb}
use lib.ListN.{length, replicate}
use lib.Seq.{sets}
use Rattle.laws.specs.Lists.{collect}
use Rattle.laws.specs.Buffers.{Wrote, wrote_along, wrote_length}
use Rattle.rules.specs.Picture.{Picture, Off, Row, is_not_ok, is_ok, is_open, is_silent, new_row, with_rows, with_state, with_delay}
use Rattle.rules.specs.House.{max_pass}
use Rattle.rules.specs.Event.{START, NCE, SHUTDOWN, DELAY}
use Rattle.rules.specs.Order.{Order, NOTOK, encode, encode_all}
use Rattle.rules.specs.Step.{rows_separately, change, refuse_if, asks, scanned, scan, begin, rescan, network_change, shut_down, delay_ends, respond}
use Rattle.rules.specs.Ending.{becomes_ok, settled, ok_order, told, waits, wait_order, ended, end_orders, orders_of}
use Rattle.rules.specs.Run.{Outcome, refused, concluded, written}
use Rattle.rules.proofs.Sizes.{told_none}
use Rattle.registry.specs.declared.image.RegistryImage.{RegistryImage}
use Rattle.registry.specs.declared.record.Recorded.{Recorded}
use Rattle.registry.specs.View.{view_of}
use Rattle.registry.specs.Outcome.{Does, Ends, rescan_outcome, scan_orders, Scans, Marks}
use Rattle.wire_orders.proofs.Writing.{orders_one, orders_length, wrote_orders}
use Rattle.registry.proofs.Doing.{takes, written_taken}
use Rattle.registry.proofs.Telling.{told_asked}

-- a scan of the rows of p, from what is written for it
module _ (p q : Picture) {n : ℕ} (e : n ≡ suc p.pass) (f : q ≡ scanned p.rows p) where
  parts : length (encode_all (suc p.pass) (scan_orders p)) ≡ length (encode_all n (asks is_open 1 p.rows)) + length (encode_all n (end_orders q))
  parts =
      orders_length (suc p.pass) (asks is_open 1 p.rows) (end_orders (scanned p.rows p))
      ∙ (λ i. length (encode_all (sym e i) (asks is_open 1 p.rows)) + length (encode_all (sym e i) (end_orders (sym f i))))

  pub scan_room : (b : List ℕ) (at : ℕ) → at + length (encode_all (suc p.pass) (scan_orders p)) ≤ length b → at + length (encode_all n (asks is_open 1 p.rows)) ≤ length b
  scan_room b at room = omega (arith, room, parts)

  module _ {b m : List ℕ} {at i : ℕ} (w : Wrote b at (encode_all n (asks is_open 1 p.rows)) i m) where
    pub scan_room_2 : at + length (encode_all (suc p.pass) (scan_orders p)) ≤ length b → i + length (encode_all n (end_orders q)) ≤ length m
    scan_room_2 room = omega (arith, room, parts, w.place, wrote_length w)

    pub scans : {r : Recorded} {d : List ℕ} → q.pass ≡ n → Ends q m i r d → Scans p b at r d
    scans {r} {d} g h =
        let x = wrote_orders n (asks is_open 1 p.rows) (end_orders q) w
        (record { buffer = h.buffer ∙ ap (λ (k : ℕ). sets m i (encode_all k (end_orders q))) g; place = refl }) in
        let l : encode_all n (asks is_open 1 p.rows ++ end_orders q) ≡ encode_all (suc p.pass) (scan_orders p) = (λ j. encode_all (e j) (asks is_open 1 p.rows ++ end_orders (f j))) in
        record {
          picture = h.picture ∙ ap ended f;
          number = h.number;
          buffer = x.buffer ∙ ap (sets b at) l;
          length = h.length ∙ ap (λ (k : ℕ). i + length (encode_all k (end_orders q))) g ∙ x.place ∙ ap (λ (y : List ℕ). at + length y) l;
        }

module _ (p : Picture) (first : List Order) (rs : List Row) where
  scan_orders_lem : orders_of p (scan first rs p) ≡ first ++ scan_orders (with_rows rs p)
  unfolding scan scanned with_rows is_ok orders_of
  scan_orders_lem =
      ap (λ (l : List Order). l ++ end_orders (scanned rs p)) (append-nil (first ++ asks is_open 1 rs ++ told rows_separately p (scanned rs p)) ∙ ap (λ (l : List Order). first ++ asks is_open 1 rs ++ l) (told_none rows_separately p (scanned rs p) refl) ∙ append-nil (first ++ asks is_open 1 rs))
      ∙ append_assoc first (asks is_open 1 rs) (end_orders (scanned rs p))

  scan_parts : length (encode_all (suc p.pass) (orders_of p (scan first rs p)))
      ≡ length (encode_all (suc p.pass) first) + length (encode_all (suc p.pass) (scan_orders (with_rows rs p)))
  scan_parts = ap (λ (l : List Order). length (encode_all (suc p.pass) l)) scan_orders_lem ∙ orders_length (suc p.pass) first (scan_orders (with_rows rs p))

  -- the orders that stand first, and the scan
  module _ {o : Outcome} (e : o ≡ concluded p (change (scan first rs p))) {q : Picture} (f : q ≡ with_rows rs p) (b : List ℕ) where
    fits : length (written o) ≤ length b
        → length (encode_all (suc p.pass) first) + length (encode_all (suc p.pass) (scan_orders (with_rows rs p))) ≤ length b
    unfolding scan scanned
    fits room = omega (arith, room, ap (λ (x : Outcome). length (written x)) e, ap length (written_taken p (scan first rs p)), scan_parts)

    pub first_room : length (written o) ≤ length b → 0 + length (encode_all (suc p.pass) first) ≤ length b
    first_room room = omega (arith, fits room)

    pub second_room : {m : List ℕ} {at : ℕ} → Wrote b 0 (encode_all (suc p.pass) first) at m → length (written o) ≤ length b
        → at + length (encode_all (suc q.pass) (scan_orders q)) ≤ length m
    unfolding with_rows
    second_room {m} {at} w room =
        subst (λ (x : Picture). at + length (encode_all (suc x.pass) (scan_orders x)) ≤ length m) (sym f) (omega (arith, fits room, w.place, wrote_length w))

    pub begins : {came : RegistryImage} {r : Recorded} {m d : List ℕ} {at : ℕ} → Wrote b 0 (encode_all (suc p.pass) first) at m → Scans q m at r d → (Marks came → Marks r.picture)
        → Does came o b r d
    unfolding scan scanned with_rows
    begins {came} {r} {m} {d} {at} w s k =
        let t = subst (λ (x : Picture). Scans x m at r d) f s in
        let n = suc p.pass in
        let x = wrote_orders n first (scan_orders (with_rows rs p)) w (record { buffer = t.buffer; place = refl }) in
        let l = ap (encode_all n) (sym scan_orders_lem) in
        subst (λ (y : Outcome). Does came y b r d) (sym e)
        (takes p (scan first rs p) t.picture t.number
        (t.length ∙ x.place ∙ omega arith ∙ ap length l)
        (x.buffer ∙ ap (sets b 0) l) k)

-- START and NCE, with a pass left and without
module _ (p : Picture) (n : ℕ) where
  pub starts : p.pass < max_pass → concluded p (respond p (START n)) ≡ concluded p (change (scan [] (replicate (n - 1) new_row) p))
  unfolding respond refuse_if begin
  starts h = ap (λ (b : Bool). concluded p (refuse_if b 9 (change (begin [] n p)))) (lt-leb max_pass p.pass h)

  pub starts_not : max_pass ≤ p.pass → concluded p (respond p (START n)) ≡ refused 9
  unfolding respond refuse_if concluded
  starts_not h = ap (λ (b : Bool). concluded p (refuse_if b 9 (change (begin [] n p)))) (le-leb max_pass p.pass h)

  pub rescans_not : max_pass ≤ p.pass → concluded p (respond p (NCE n)) ≡ refused 9
  unfolding respond refuse_if concluded
  rescans_not h = ap (λ (b : Bool). concluded p (refuse_if b 9 (change (network_change n p)))) (le-leb max_pass p.pass h)

  module _ (h : p.pass < max_pass) {ok : Bool} (e : ok ≡ is_ok p.state) where
    by_state : {t : Bool} → ok ≡ t → concluded p (respond p (NCE n)) ≡ concluded p (change (cond t (rescan n p) (begin (NOTOK ∷ []) n p)))
    unfolding respond refuse_if network_change
    by_state f = (λ i. concluded p (refuse_if (lt-leb max_pass p.pass h i) 9 (change (cond ((sym e ∙ f) i) (rescan n p) (begin (NOTOK ∷ []) n p)))))

    pub rescans_notok : ok ≡ false → concluded p (respond p (NCE n)) ≡ concluded p (change (scan (NOTOK ∷ []) (replicate (n - 1) new_row) p))
    unfolding begin
    rescans_notok f = by_state f

    pub rescans_ok : ok ≡ true → concluded p (respond p (NCE n)) ≡ rescan_outcome p n
    rescans_ok f = by_state f

-- SHUTDOWN writes nothing
pub shuts : {came : RegistryImage} {r : Recorded} (p : Picture) (b : List ℕ) → ◌≡◌ {A = Picture} (view_of r.picture) (record { state = Off; pass = p.pass; size = p.size; delay = false; rows = [] })
    → r.number ≡ 0 → r.length ≡ 0 → (Marks came → Marks r.picture) → Does came (concluded p (respond p SHUTDOWN)) b r b
unfolding respond shut_down ended with_delay settled with_state becomes_ok waits is_not_ok is_ok orders_of end_orders ok_order wait_order encode_all collect
shuts p b e n f k =
    takes p (shut_down p) e n (f ∙ ap (λ (os : List Order). length (encode_all p.pass os)) (sym none)) (ap (λ (os : List Order). sets b 0 (encode_all p.pass os)) (sym none)) k
  where
    none : orders_of p (shut_down p) ≡ []
    none = ap (λ (os : List Order). [] ++ os ++ [] ++ []) (told_none rows_separately p (shut_down p).picture refl)

-- DELAY: 5, 8, or the SILENT rows are asked
module _ (p : Picture) (n : ℕ) where
  pub wrong_pass : (n ≡ p.pass → ⊥) → concluded p (respond p (DELAY n)) ≡ refused 5
  unfolding respond refuse_if concluded
  wrong_pass h = ap (λ (b : Bool). concluded p (refuse_if (not b) 5 (refuse_if (not p.delay) 8 (change (delay_ends p))))) (ne_eqb n p.pass h)

  pub no_delay : n ≡ p.pass → p.delay ≡ false → concluded p (respond p (DELAY n)) ≡ refused 8
  unfolding respond refuse_if concluded
  no_delay e f = (λ i. concluded p (refuse_if (not (eq-eqb n p.pass e i)) 5 (refuse_if (not (f i)) 8 (change (delay_ends p)))))

  pub delays : n ≡ p.pass → p.delay ≡ true → concluded p (respond p (DELAY n)) ≡ concluded p (change (delay_ends p))
  unfolding respond refuse_if
  delays e f = (λ i. concluded p (refuse_if (not (eq-eqb n p.pass e i)) 5 (refuse_if (not (f i)) 8 (change (delay_ends p)))))

pub delay_front : (p : Picture) → (delay_ends p).first ++ told (delay_ends p).packing p (delay_ends p).picture ++ (delay_ends p).set ≡ asks is_silent 1 p.rows
unfolding delay_ends
delay_front p =
    append-nil (asks is_silent 1 p.rows ++ told (delay_ends p).packing p (delay_ends p).picture)
    ∙ ap (λ (l : List Order). asks is_silent 1 p.rows ++ l) (told_asked p (delay_ends p).picture refl) ∙ append-nil (asks is_silent 1 p.rows)

-- the order NOTOK of the next pass
module _ (n : ℕ) {m : ℕ} (e : m ≡ suc n) where
  notok : encode m NOTOK ≡ encode_all (suc n) (NOTOK ∷ [])
  notok = ap (λ (k : ℕ). encode k NOTOK) e ∙ sym (orders_one (suc n) NOTOK)

  pub notok_room : (b : List ℕ) → 0 + length (encode_all (suc n) (NOTOK ∷ [])) ≤ length b → 0 + length (encode m NOTOK) ≤ length b
  notok_room b h = omega (arith, h, ap length notok)

  pub notok_wrote : {b c : List ℕ} {at : ℕ} → Wrote b 0 (encode m NOTOK) at c → Wrote b 0 (encode_all (suc n) (NOTOK ∷ [])) at c
  notok_wrote h = wrote_along notok h
