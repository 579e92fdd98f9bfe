-- What is claimed of units, of orders read, and of a bench. Numbers are those of the papers.
use Rattle.std.specs.Prelude.{ℕ, ◌<◌, ◌≤◌, ◌≡◌, Bool, true, false, not, ◌&&◌, List, [], ◌∷◌, ◌++◌, map, eqb, length, drop}
use Rattle.std.proofs.Math.Option.{none, some}
use Rattle.laws.specs.Lists.{any, select, collect}
use Rattle.laws.specs.Alls.{All, Pairwise}
use Rattle.rules.specs.Picture.{Ok, Pair, same_pair, holds, Picture}
use Rattle.rules.specs.Event.{ANSWER, pair_bytes, decode, encode_event}
use Rattle.rules.specs.Order.{Order, ASK, SET, OK, NOTOK, NEW, INVALID, WAIT_SHORT, WAIT_LONG, encode, encode_all}
use Rattle.rules.specs.Run.{Sent, sent_with}
use Rattle.rules.specs.Listing.{Entry, listing, found, not_found}
use Rattle.rules_unit.specs.Reading.{decode_order, orders_in}
use Rattle.rules_unit.specs.Slave.{Known, Slave, make, make_number, learn, pair, read, Turn, lived}
use Rattle.rules_unit.specs.Bench.{Act, acted, fresh_bench}

-- "every kept entry is in the master's listing with that address"
unfoldable pub matches : Known → Entry → Bool
matches k e = same_pair k.pair e.pair && eqb k.address e.address

abbrev pub IsListed : Picture → Known → Type 0
IsListed p k = any (matches k) (listing p) ≡ true

-- The claim of ticket 7, of every list of records and look-ups, and so after each part of it: "For one master and one unit that has read
-- all orders so far, both fresh at first, each look-up asked and answered between events: while the master is OK, every kept entry is
-- in the master's listing with that address."
pub record Coherent (size position address : ℕ) (pairs : List ℕ) (acts : List Act) : Type 0 where
  pub listed : (acted (fresh_bench size position address pairs) acts).master.state ≡ Ok
      → All (IsListed (acted (fresh_bench size position address pairs) acts).master) (acted (fresh_bench size position address pairs) acts).unit.known

-- A unit made from the bytes of pairs has them as its list, up to 24; "a unit made with over [24] pairs is refused 2 and comes back with
-- none", and so is one with half a pair behind them. It has read nothing and keeps nothing.
pub record Makes (position address : ℕ) (pairs : List Pair) : Type 0 where
  pub few : length pairs ≤ 24
      → (make_number (collect pair_bytes pairs) ≡ 0)
      × (make position address (collect pair_bytes pairs) ≡ record { position = position; address = address; pairs = pairs; pass = 0; known = [] })
  pub many : 25 ≤ length pairs
      → (make_number (collect pair_bytes pairs) ≡ 2)
      × (make position address (collect pair_bytes pairs) ≡ record { position = position; address = address; pairs = []; pass = 0; known = [] })
  pub half : (block : ℕ)
      → (make_number (collect pair_bytes pairs ++ block ∷ []) ≡ 2)
      × (make position address (collect pair_bytes pairs ++ block ∷ []) ≡ record { position = position; address = address; pairs = []; pass = 0; known = [] })

-- What a unit is after any orders and look-ups: it sits where it sat and announces the same address and the same blocks in their order,
-- and it keeps up to 64 answers, "each pair once".
pub record Lives (x a : ℕ) (pairs : List ℕ) (turns : List Turn) : Type 0 where
  pub position : (lived (make x a pairs) turns).position ≡ x
  pub address : (lived (make x a pairs) turns).address ≡ a
  pub blocks : map (λ (g : Pair). g.block) (lived (make x a pairs) turns).pairs ≡ map (λ (g : Pair). g.block) (make x a pairs).pairs
  pub few : length (lived (make x a pairs) turns).known ≤ 64
  pub once : Pairwise (λ (j k : Known). same_pair j.pair k.pair ≡ false) (lived (make x a pairs) turns).known

-- What is looked at first, and what a refusal leaves: "lent room below 64 bytes is refused 1, first; an order of wrong length, mark or
-- kind is refused 2 and changes nothing".
pub record Checks (u : Slave) (order : List ℕ) (room : ℕ) : Type 0 where
  pub tight : room < 64 → read u order room ≡ record { number = 1; unit = u; answer = [] }
  pub malformed : 64 ≤ room → decode_order order ≡ none → read u order room ≡ record { number = 2; unit = u; answer = [] }
  pub taken : 64 ≤ room → (s : Sent) → decode_order order ≡ some s → ((read u order room).number ≡ 0) × ((read u order room).unit.pass ≡ s.pass)

-- an order that asks this unit, and one that renumbers it
abbrev pub Asks : Slave → List ℕ → (pass : ℕ) → Type 0
Asks u order c = decode_order order ≡ some (sent_with c (ASK u.position))

abbrev pub Commands : Slave → List ℕ → (block old new : ℕ) → Type 0
Commands u order b o n = (c : ℕ) × (decode_order order ≡ some (sent_with c (SET u.position u.address b o n)))

-- What is written: "It answers an ASK for its own position with its list. It answers a SET for its own position and address .. with its
-- list either way", of the pass of the order, and nothing else. That is at most 59 bytes for up to 24 pairs, so that room 64 does; and of a
-- unit without blocks 00, 01 and FF the master decodes it to that ANSWER.
pub record Answers (u : Slave) (order : List ℕ) (room : ℕ) : Type 0 where
  pub asked : 64 ≤ room → (c : ℕ) → Asks u order c → (read u order room).answer ≡ encode_event (ANSWER c u.position u.address u.pairs)
  pub renumbered : 64 ≤ room → (b o n : ℕ) (k : Commands u order b o n)
      → (read u order room).answer ≡ encode_event (ANSWER k.0 u.position u.address (read u order room).unit.pairs)
  pub silent : ((c : ℕ) → Asks u order c → ⊥) → ((b o n : ℕ) → Commands u order b o n → ⊥) → (read u order room).answer ≡ []
  pub short : length u.pairs ≤ 24 → length (read u order room).answer ≤ 59
  pub decodes : length u.pairs ≤ 24 → All (λ (a : Pair). (0x02 ≤ a.block) × (a.block ≤ 0xFE)) u.pairs → u.address < 65_536
      → (c : ℕ) → c ≤ 4_294_967_295
      → decode (encode_event (ANSWER c u.position u.address (read u order room).unit.pairs))
      ≡ some (ANSWER c u.position u.address (read u order room).unit.pairs)

-- What an order leaves of the kept answers: "drops those named by INVALID, and empties itself on NOTOK and on any order whose pass differs
-- from the last order's"; and no other order drops any.
pub record Forgets (u : Slave) (order : List ℕ) (room : ℕ) (s : Sent) : Type 0 where
  pub not_ok : s.order ≡ NOTOK → (read u order room).unit.known ≡ []
  pub another_pass : (s.pass ≡ u.pass → ⊥) → (read u order room).unit.known ≡ []
  pub invalid : s.pass ≡ u.pass → (ps : List Pair) → s.order ≡ INVALID ps
      → (read u order room).unit.known ≡ select (λ (k : Known). not (holds ps k.pair)) u.known
  pub others : s.pass ≡ u.pass → (s.order ≡ NOTOK → ⊥) → ((ps : List Pair) → s.order ≡ INVALID ps → ⊥)
      → (read u order room).unit.known ≡ u.known

-- the answers for other pairs
abbrev pub for_others : Pair → Slave → List Known
for_others a u = select (λ (k : Known). not (same_pair k.pair a)) u.known

-- What a look-up leaves, wherever the pair is found: "each pair once, the newest answer .. When full, it forgets the oldest answer"; a refused
-- one changes nothing.

pub record Learns (u : Slave) (a : Pair) (position address : ℕ) : Type 0 where
  pub kept : length (for_others a u) ≤ 63
      → learn a (found position address) u
      ≡ record { position = u.position; address = u.address; pairs = u.pairs; pass = u.pass; known = for_others a u ++ record { pair = a; address = address } ∷ [] }
  pub oldest : length (for_others a u) ≡ 64
      → learn a (found position address) u
      ≡ record { position = u.position; address = u.address; pairs = u.pairs; pass = u.pass; known = drop 1 (for_others a u) ++ record { pair = a; address = address } ∷ [] }
  pub refused : (number : ℕ) → learn a (not_found number) u ≡ u

-- What a SET does to the list: "renumbering its first pair of that block with the old number, if it has one and no other pair of that
-- block has the new". So it changes at most one pair, and no other order changes any.
pub record Obeys (u : Slave) (order : List ℕ) (room : ℕ) : Type 0 where
  pub moved : 64 ≤ room → (b o n : ℕ) → Commands u order b o n → (front back : List Pair) → u.pairs ≡ front ++ pair b o ∷ back
      → holds front (pair b o) ≡ false → holds (front ++ back) (pair b n) ≡ false → (read u order room).unit.pairs ≡ front ++ pair b n ∷ back
  pub barred : (b o n : ℕ) → Commands u order b o n → (front back : List Pair) → u.pairs ≡ front ++ pair b o ∷ back
      → holds front (pair b o) ≡ false → holds (front ++ back) (pair b n) ≡ true → (read u order room).unit.pairs ≡ u.pairs
  pub absent : (b o n : ℕ) → Commands u order b o n → holds u.pairs (pair b o) ≡ false → (read u order room).unit.pairs ≡ u.pairs
  pub others : ((b o n : ℕ) → Commands u order b o n → ⊥) → (read u order room).unit.pairs ≡ u.pairs

-- the orders that can be written: a pass of four bytes, an address of two
abbrev pub Writable : ℕ → Order → Type 0
Writable c (ASK x) = c ≤ 4_294_967_295
Writable c (SET x a b o n) = (c ≤ 4_294_967_295) × (a < 65_536)
Writable c OK = c ≤ 4_294_967_295
Writable c NOTOK = c ≤ 4_294_967_295
Writable c (NEW ps) = c ≤ 4_294_967_295
Writable c (INVALID ps) = c ≤ 4_294_967_295
Writable c WAIT_SHORT = c ≤ 4_294_967_295
Writable c WAIT_LONG = c ≤ 4_294_967_295

-- The bytes of an order are read as that order, and no other bytes are.
pub record DecodesOrder (c : ℕ) (o : Order) : Type 0 where
  pub decodes : Writable c o → decode_order (encode c o) ≡ some (sent_with c o)

pub record DecodesOrdersOnly (b : List ℕ) : Type 0 where
  pub only : All (λ (x : ℕ). x < 256) b → (s : Sent) → decode_order b ≡ some s → (b ≡ encode s.pass s.order) × Writable s.pass s.order

-- The orders of an event, written one behind the other, are taken apart again.
pub record TakesApart (c : ℕ) (os : List Order) : Type 0 where
  pub apart : orders_in (encode_all c os) ≡ map (encode c) os
