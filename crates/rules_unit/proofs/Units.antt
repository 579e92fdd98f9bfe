-- What a unit is when it is made and after any orders and look-ups, and what it writes.
use Prim.Native.Nat.{ℕ, ◌+◌, ◌*◌, ◌<◌, ◌≤◌}
use mathlib.Core.Path.{◌≡◌, refl, sym, ◌∙◌, ap, subst}
use mathlib.Core.Bool.{Bool, true, false, cond, not, ◌&&◌, ◌||◌}
use mathlib.Core.List.{List, [], ◌∷◌, ◌++◌, map}
use mathlib.Core.Option.{Option, none, some}
use native.Mathlib.Omega.{arith}
use borrow.Author.Tests.{lt-ltb, le-ltb, eqb-true, eq-eqb, ne_eqb}
use lib.Dec.{eqb, ltb}
use lib.ListN.{length, length-append, length-map}
use Rattle.laws.specs.Lists.{any, collect}
use Rattle.laws.specs.Bools.{and_left, and_right, and_true, or_left, or_right, refute, on_cond, cond_true, cond_false, cond_same}
use Rattle.laws.specs.Alls.{All, all_mapped, all_unmapped}
use Rattle.rules.specs.House.{max_pairs, min_answer_room}
use Rattle.rules.specs.Picture.{Pair, same_pair, holds}
use Rattle.rules.specs.Event.{ANSWER, two, four, read_pairs, pair_bytes, decode, header, encode_event}
use Rattle.rules.specs.Order.{Order, ASK, SET, OK, NOTOK, NEW, INVALID, WAIT_SHORT, WAIT_LONG}
use Rattle.rules.specs.Run.{Sent, sent_with}
use Rattle.rules.specs.Listing.{found, not_found}
use Rattle.rules.proofs.Pairs.{same_self, same_eq}
use Rattle.rules.proofs.Encode.{read_back, pairs_length, decode_encode}
use Rattle.rules_unit.specs.Reading.{decode_order}
use Rattle.rules_unit.specs.Slave.{Slave, not_made, make, make_number, with_known, learn, without, rename, pair, renumbered, is_answered, obeyed, heard, answer_of, Reading, refuse_order, on_order, read, Turn, reads, learns, turned, lived}
use Rattle.rules_unit.specs.Claims.{Makes, Lives, Checks, Answers, Commands, Obeys}
use Rattle.rules_unit.proofs.Memory.{Tidy, tidy_nothing, tidy_known, tidy_remember}

-- made from bytes
made_pairs : (ps : List Pair) → not_made (collect pair_bytes ps) ≡ ltb max_pairs (length ps)
unfolding not_made
made_pairs ps =
    (λ i. not (eqb (length (collect pair_bytes ps)) (2 * length (read_back ps i))) || ltb max_pairs (length (read_back ps i)))
    ∙ ap (λ (t : Bool). not t || ltb max_pairs (length ps)) (eq-eqb (length (collect pair_bytes ps)) (2 * length ps) (pairs_length ps))

read_half : (x : ℕ) (ps : List Pair) → read_pairs (collect pair_bytes ps ++ x ∷ []) ≡ ps
unfolding read_pairs collect pair_bytes
read_half x [] = refl
read_half x (a ∷ ps) = ap (◌∷◌ a) (read_half x ps)

made_half : (x : ℕ) (ps : List Pair) → not_made (collect pair_bytes ps ++ x ∷ []) ≡ true
unfolding not_made
made_half x ps =
    let b = collect pair_bytes ps ++ x ∷ [] in
    let l = length-append (collect pair_bytes ps) (x ∷ []) in
    let m = pairs_length ps in
    let n : length b ≡ 2 * length ps + 1 = omega arith in
    (λ i. not (eqb (length b) (2 * length (read_half x ps i))) || ltb max_pairs (length (read_half x ps i)))
    ∙ ap (λ (t : Bool). not t || ltb max_pairs (length ps)) (ne_eqb (length b) (2 * length ps) (λ e. omega (arith, e, n)))

pub makes : (x a : ℕ) (ps : List Pair) → Makes x a ps
unfolding make make_number
makes x a ps =
    record {
      few = λ l.
          let e = made_pairs ps ∙ le-ltb max_pairs (length ps) l in
          (ap (λ (t : Bool). cond t 2 0) e, λ i. record { position = x; address = a; pairs = cond (e i) [] (read_back ps i); pass = 0; known = [] });
      many = λ l. none_made (collect pair_bytes ps) (made_pairs ps ∙ lt-ltb max_pairs (length ps) l);
      half = λ b. none_made (collect pair_bytes ps ++ b ∷ []) (made_half b ps);
    }
  where
    none_made : (b : List ℕ) → not_made b ≡ true
        → (make_number b ≡ 2) × (make x a b ≡ record { position = x; address = a; pairs = []; pass = 0; known = [] })
    none_made b e = (ap (λ (t : Bool). cond t 2 0) e, λ i. record { position = x; address = a; pairs = cond (e i) [] (read_pairs b); pass = 0; known = [] })

-- the ways in which an order is read: room below the least, no order, an order
module _ (u : Slave) (b : List ℕ) (room : ℕ) (P : Reading → Type 0) where
  pub on_read : P (refuse_order 1 u) → (m : Option Sent) → decode_order b ≡ m → P (on_order u m) → P (read u b room)
  unfolding read
  on_read r m e h = on_cond P (ltb room min_answer_room) (refuse_order 1 u) (on_order u (decode_order b)) (λ _. r) (λ _. subst (λ (n : Option Sent). P (on_order u n)) (sym e) h)

  -- whatever the bytes are
  pub on_any : P (refuse_order 1 u) → P (refuse_order 2 u) → ((s : Sent) → decode_order b ≡ some s → P (on_order u (some s))) → P (read u b room)
  unfolding on_order
  on_any r q h = on_read r (decode_order b) refl (go (decode_order b) refl)
    where
      go : (m : Option Sent) → decode_order b ≡ m → P (on_order u m)
      go none e = q
      go (some s) e = h s e

-- with room enough, an order is read
pub read_with_room : (u : Slave) (b : List ℕ) (room : ℕ) (m : Option Sent) → min_answer_room ≤ room → decode_order b ≡ m → read u b room ≡ on_order u m
unfolding read
read_with_room u b room m l e = cond_false (refuse_order 1 u) _ (le-ltb room min_answer_room l) ∙ ap (on_order u) e

read_short : (u : Slave) (b : List ℕ) (room : ℕ) → room < min_answer_room → read u b room ≡ refuse_order 1 u
unfolding read
read_short u b room l = cond_true (refuse_order 1 u) _ (lt-ltb room min_answer_room l)

pub checks : (u : Slave) (b : List ℕ) (room : ℕ) → Checks u b room
unfolding refuse_order on_order heard
checks u b room =
    record {
      tight = λ l. read_short u b room l;
      malformed = λ l e. read_with_room u b room none l e;
      taken = λ l s e. let q = read_with_room u b room (some s) l e in (ap (λ (r : Reading). r.number) q, ap (λ (r : Reading). r.unit.pass) q);
    }

-- the blocks of a list stay, whatever is renumbered
blocks : List Pair → List ℕ
blocks ps = map (λ (a : Pair). a.block) ps

rename_blocks : (b o n : ℕ) (ps : List Pair) → blocks (rename (pair b o) (pair b n) ps) ≡ blocks ps
unfolding rename blocks
rename_blocks b o n [] = refl
rename_blocks b o n (q ∷ ps) = go (same_pair (pair b o) q) refl (rename_blocks b o n ps)
  where
    go : (t : Bool) → same_pair (pair b o) q ≡ t → blocks (rename (pair b o) (pair b n) ps) ≡ blocks ps
        → blocks (cond t (pair b n ∷ ps) (q ∷ rename (pair b o) (pair b n) ps)) ≡ blocks (q ∷ ps)
    go true e h = ap (λ (z : Pair). z.block ∷ blocks ps) (same_eq (pair b o) q e)
    go false e h = ap (◌∷◌ q.block) h

obeyed_blocks : (o : Order) (ps : List Pair) → blocks (obeyed o ps) ≡ blocks ps
unfolding obeyed renumbered
obeyed_blocks (ASK x) ps = refl
obeyed_blocks (SET x a b o n) ps =
    on_cond (λ (qs : List Pair). blocks qs ≡ blocks ps) (holds (without (pair b o) ps) (pair b n)) ps _ (λ _. refl) (λ _. rename_blocks b o n ps)
obeyed_blocks OK ps = refl
obeyed_blocks NOTOK ps = refl
obeyed_blocks (NEW qs) ps = refl
obeyed_blocks (INVALID qs) ps = refl
obeyed_blocks WAIT_SHORT ps = refl
obeyed_blocks WAIT_LONG ps = refl

heard_blocks : (u : Slave) (s : Sent) → blocks (heard u s).pairs ≡ blocks u.pairs
unfolding heard
heard_blocks u s =
    on_cond (λ (qs : List Pair). blocks qs ≡ blocks u.pairs) (is_answered u s.order) _ u.pairs (λ _. obeyed_blocks s.order u.pairs) (λ _. refl)

heard_length : (u : Slave) (s : Sent) → length (heard u s).pairs ≡ length u.pairs
unfolding blocks
heard_length u s =
    sym (length-map (heard u s).pairs (λ (a : Pair). a.block)) ∙ ap length (heard_blocks u s) ∙ length-map u.pairs (λ (a : Pair). a.block)

-- a unit that has lived through some turns
record Living (x a : ℕ) (bs : List ℕ) (u : Slave) : Type 0 where
  pub position : u.position ≡ x
  pub address : u.address ≡ a
  pub same : blocks u.pairs ≡ bs
  pub tidy : Tidy u.known

living_turn : (x a : ℕ) (bs : List ℕ) (u : Slave) (t : Turn) → Living x a bs u → Living x a bs (turned u t)
unfolding turned learn with_known refuse_order on_order heard
living_turn x a bs u (reads b room) h = on_any u b room (λ (r : Reading). Living x a bs r.unit) h h (λ s e. hears s)
  where
    hears : (s : Sent) → Living x a bs (heard u s)
    hears s = record { position = h.position; address = h.address; same = heard_blocks u s ∙ h.same; tidy = tidy_known u.pass u.known s h.tidy }
living_turn x a bs u (learns p (found y b)) h =
    record { position = h.position; address = h.address; same = h.same; tidy = tidy_remember (record { pair = p; address = b }) u.known h.tidy }
living_turn x a bs u (learns p (not_found n)) h = h

living : (x a : ℕ) (bs : List ℕ) (u : Slave) (ts : List Turn) → Living x a bs u → Living x a bs (lived u ts)
unfolding lived
living x a bs u [] h = h
living x a bs u (t ∷ ts) h = living x a bs (turned u t) ts (living_turn x a bs u t h)

pub lives : (x a : ℕ) (b : List ℕ) (ts : List Turn) → Lives x a b ts
unfolding make blocks
lives x a b ts = record { position = l.position; address = l.address; blocks = l.same; few = l.tidy.few; once = l.tidy.once }
  where
    l : Living x a (blocks (make x a b).pairs) (lived (make x a b) ts)
    l = living x a (blocks (make x a b).pairs) (make x a b) ts (record { position = refl; address = refl; same = refl; tidy = tidy_nothing })

-- what is written
answer_length : (c : ℕ) (u : Slave) → length (answer_of c u) ≡ 11 + 2 * length u.pairs
unfolding answer_of encode_event header four two
answer_length c u = let e = pairs_length u.pairs in omega arith

-- a list with the unit's blocks, where these may be announced, is read by the master as it is written
Announced : ℕ → Type 0
Announced b = (0x02 ≤ b) × (b ≤ 0xFE)

announced : (u : Slave) (ps : List Pair) (c : ℕ) → blocks ps ≡ blocks u.pairs → length u.pairs ≤ 24
    → All (λ (a : Pair). (0x02 ≤ a.block) × (a.block ≤ 0xFE)) u.pairs → u.address < 65_536 → c ≤ 4_294_967_295
    → decode (encode_event (ANSWER c u.position u.address ps)) ≡ some (ANSWER c u.position u.address ps)
unfolding blocks Announced
announced u ps c e l g n m = decode_encode (ANSWER c u.position u.address ps) (m, n, omega (arith, l, same), good)
  where
    same : length ps ≡ length u.pairs
    same = sym (length-map ps (λ (a : Pair). a.block)) ∙ ap length e ∙ length-map u.pairs (λ (a : Pair). a.block)

    good : All (λ (a : Pair). Announced a.block) ps
    good =
        all_unmapped {Q = Announced} (λ (a : Pair). a.block) ps
        (subst (All Announced) (sym e) (all_mapped {Q = Announced} (λ (a : Pair). a.block) g))

-- an order that neither asks nor renumbers the unit is not answered
not_answered : (u : Slave) (s : Sent) → ((c : ℕ) → s ≡ sent_with c (ASK u.position) → ⊥)
    → ((c b o n : ℕ) → s ≡ sent_with c (SET u.position u.address b o n) → ⊥) → is_answered u s.order ≡ false
unfolding is_answered sent_with
not_answered u s f g = go s.order refl
  where
    with_order : {o : Order} → s.order ≡ o → s ≡ record { pass = s.pass; order = o }
    with_order e = λ i. record { pass = s.pass; order = e i }

    go : (o : Order) → s.order ≡ o → is_answered u o ≡ false
    go (ASK x) e = refute (eqb x u.position) (λ t. absurd (f s.pass (with_order (e ∙ ap ASK (eqb-true x u.position t)))))
    go (SET x a b o n) e =
        refute (eqb x u.position && eqb a u.address)
        (λ t.
        let p = eqb-true x u.position (and_left _ _ t) in
        let q = eqb-true a u.address (and_right (eqb x u.position) _ t) in
        absurd (g s.pass b o n (with_order (e ∙ (λ j. SET (p j) (q j) b o n)))))
    go OK e = refl
    go NOTOK e = refl
    go (NEW ps) e = refl
    go (INVALID ps) e = refl
    go WAIT_SHORT e = refl
    go WAIT_LONG e = refl

own : (u : Slave) → (eqb u.position u.position && eqb u.address u.address) ≡ true
own u = and_true (eqb u.position u.position) (eqb u.address u.address) (eq-eqb u.position u.position refl) (eq-eqb u.address u.address refl)

pub answers : (u : Slave) (b : List ℕ) (room : ℕ) → Answers u b room
unfolding refuse_order on_order is_answered sent_with answer_of heard obeyed
answers u b room =
    record {
      asked = λ m c e.
          ap (λ (r : Reading). r.answer) (read_with_room u b room (some (sent_with c (ASK u.position))) m e)
          ∙ cond_true _ [] (eq-eqb u.position u.position refl)
          ∙ ap (λ (ps : List Pair). encode_event (ANSWER c u.position u.address ps)) (cond_same (eqb u.position u.position) u.pairs);
      renumbered = λ m k o n e.
          let r = read_with_room u b room (some (sent_with e.0 (SET u.position u.address k o n))) m e.1 in
          ap (λ (z : Reading). z.answer) r ∙ cond_true _ [] (own u)
          ∙ ap (λ (z : Reading). encode_event (ANSWER e.0 u.position u.address z.unit.pairs)) (sym r);
      silent = λ f g. on_any u b room (λ (r : Reading). r.answer ≡ []) refl refl
          (λ s e. cond_false _ [] (not_answered u s (λ c q. f c (e ∙ ap some q)) (λ c k o n q. g k o n (c, e ∙ ap some q))));
      short = λ l. on_any u b room (λ (r : Reading). length r.answer ≤ 59) (omega arith) (omega arith) (short l);
      decodes = λ l g n c m. on_any u b room
          (λ (r : Reading). decode (encode_event (ANSWER c u.position u.address r.unit.pairs)) ≡ some (ANSWER c u.position u.address r.unit.pairs))
          (announced u u.pairs c refl l g n m) (announced u u.pairs c refl l g n m) (λ s e. announced u (heard u s).pairs c (heard_blocks u s) l g n m);
    }
  where
    short : length u.pairs ≤ 24 → (s : Sent) → decode_order b ≡ some s
        → length (cond (is_answered u s.order) (answer_of s.pass (heard u s)) []) ≤ 59
    short l s e =
        on_cond (λ (z : List ℕ). length z ≤ 59) (is_answered u s.order) _ []
        (λ _. omega (arith, l, answer_length s.pass (heard u s), heard_length u s)) (λ _. omega arith)

-- the first pair of a kind in a list
first_without : (a : Pair) (front back : List Pair) → holds front a ≡ false → without a (front ++ a ∷ back) ≡ front ++ back
unfolding without holds any
first_without a [] back h = cond_true _ _ (same_self a)
first_without a (b ∷ front) back h =
    cond_false _ _ (or_left (same_pair a b) (any (same_pair a) front) h)
    ∙ ap (◌∷◌ b) (first_without a front back (or_right (same_pair a b) (any (same_pair a) front) h))

first_renamed : (a c : Pair) (front back : List Pair) → holds front a ≡ false → rename a c (front ++ a ∷ back) ≡ front ++ c ∷ back
unfolding rename holds any
first_renamed a c [] back h = cond_true _ _ (same_self a)
first_renamed a c (b ∷ front) back h =
    cond_false _ _ (or_left (same_pair a b) (any (same_pair a) front) h)
    ∙ ap (◌∷◌ b) (first_renamed a c front back (or_right (same_pair a b) (any (same_pair a) front) h))

none_renamed : (a c : Pair) (ps : List Pair) → holds ps a ≡ false → rename a c ps ≡ ps
unfolding rename holds any
none_renamed a c [] h = refl
none_renamed a c (b ∷ ps) h =
    cond_false _ _ (or_left (same_pair a b) (any (same_pair a) ps) h) ∙ ap (◌∷◌ b) (none_renamed a c ps (or_right (same_pair a b) (any (same_pair a) ps) h))

-- a SET for the own position and address
own_set : (u : Slave) (c b o n : ℕ) → (heard u (sent_with c (SET u.position u.address b o n))).pairs ≡ renumbered b o n u.pairs
unfolding heard sent_with is_answered obeyed
own_set u c b o n = cond_true _ _ (own u)

-- any other order
other_order : (u : Slave) (s : Sent) → ((b o n : ℕ) → s ≡ sent_with s.pass (SET u.position u.address b o n) → ⊥) → (heard u s).pairs ≡ u.pairs
unfolding heard is_answered obeyed sent_with
other_order u s f = go s.order refl
  where
    go : (o : Order) → s.order ≡ o → cond (is_answered u o) (obeyed o u.pairs) u.pairs ≡ u.pairs
    go (ASK x) e = cond_same (eqb x u.position) u.pairs
    go (SET x a b o n) e =
        on_cond (λ (ps : List Pair). ps ≡ u.pairs) (eqb x u.position && eqb a u.address) (renumbered b o n u.pairs) u.pairs
        (λ t.
        let p = eqb-true x u.position (and_left _ _ t) in
        let q = eqb-true a u.address (and_right (eqb x u.position) _ t) in
        absurd (f b o n (λ i. record { pass = s.pass; order = (e ∙ (λ j. SET (p j) (q j) b o n)) i })))
        (λ _. refl)
    go OK e = refl
    go NOTOK e = refl
    go (NEW ps) e = refl
    go (INVALID ps) e = refl
    go WAIT_SHORT e = refl
    go WAIT_LONG e = refl

pub obeys : (u : Slave) (b : List ℕ) (room : ℕ) → Obeys u b room
unfolding refuse_order on_order renumbered
obeys u b room =
    record {
      moved = λ m k o n e front back p f g.
          let a = pair k o in
          ap (λ (r : Reading). r.unit.pairs) (read_with_room u b room (some (sent_with e.0 (SET u.position u.address k o n))) m e.1)
          ∙ own_set u e.0 k o n ∙ ap (renumbered k o n) p
          ∙ cond_false _ _ (ap (λ (ps : List Pair). holds ps (pair k n)) (first_without a front back f) ∙ g) ∙ first_renamed a (pair k n) front back f;
      barred = λ k o n e front back p f g. kept k o n e
          (cond_true _ _ (ap (λ (ps : List Pair). holds (without (pair k o) ps) (pair k n)) p ∙ ap (λ (ps : List Pair). holds ps (pair k n)) (first_without (pair k o) front back f) ∙ g));
      absent = λ k o n e f. kept k o n e
          (on_cond (λ (ps : List Pair). ps ≡ u.pairs) (holds (without (pair k o) u.pairs) (pair k n)) u.pairs _ (λ _. refl) (λ _. none_renamed (pair k o) (pair k n) u.pairs f));
      others = λ f. on_any u b room (λ (r : Reading). r.unit.pairs ≡ u.pairs) refl refl
          (λ s e. other_order u s (λ k o n q. f k o n (s.pass, e ∙ ap some q)));
    }
  where
    kept : (k o n : ℕ) → Commands u b k o n → renumbered k o n u.pairs ≡ u.pairs → (read u b room).unit.pairs ≡ u.pairs
    kept k o n e h =
        on_read u b room (λ (r : Reading). r.unit.pairs ≡ u.pairs) refl (some (sent_with e.0 (SET u.position u.address k o n))) e.1 (own_set u e.0 k o n ∙ h)
