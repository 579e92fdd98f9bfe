-- The unit's side, ticket 7: a NetworkSlave that reads orders, keeps look-up answers and answers for itself.
use Rattle.std.specs.Prelude.{ℕ, ◌-◌, ◌*◌, Bool, true, false, cond, not, ◌&&◌, ◌||◌, List, [], ◌∷◌, ◌++◌, eqb, ltb, length, drop}
use Rattle.std.proofs.Math.Option.{Option, none, some}
use Rattle.laws.specs.Lists.{select}
use Rattle.rules.specs.House.{max_pairs, max_answers, min_answer_room}
use Rattle.rules.specs.Picture.{Pair, same_pair, holds}
use Rattle.rules.specs.Event.{ANSWER, read_pairs, encode_event}
use Rattle.rules.specs.Order.{Order, ASK, SET, OK, NOTOK, NEW, INVALID, WAIT_SHORT, WAIT_LONG}
use Rattle.rules.specs.Run.{Sent}
use Rattle.rules.specs.Listing.{Lookup, found, not_found}
use Rattle.rules_unit.specs.Reading.{decode_order}

-- a look-up answer: "(block, number, address; each pair once, the newest answer)"
pub record Known : Type 0 where
  pub pair : Pair
  pub address : ℕ

-- The unit: where it sits and what it announces; the pass of the last order that it read, "0 at first"; its answers, the oldest first.
pub record Slave : Type 0 where
  pub position : ℕ
  pub address : ℕ
  pub pairs : List Pair
  pub pass : ℕ
  pub known : List Known

-- A unit is made from bytes, two for each pair. "a unit made with over [24, ticket 8] pairs is refused 2 and comes back with none"; so
-- is one made from half a pair.
unfoldable pub not_made : List ℕ → Bool
not_made b = not (eqb (length b) (2 * length (read_pairs b))) || ltb max_pairs (length (read_pairs b))

unfoldable pub make : (position address : ℕ) → List ℕ → Slave
make x a b = record { position = x; address = a; pairs = cond (not_made b) [] (read_pairs b); pass = 0; known = [] }

unfoldable pub make_number : List ℕ → ℕ
make_number b = cond (not_made b) 2 0

unfoldable pub with_known : List Known → Slave → Slave
with_known ks u = record { position = u.position; address = u.address; pairs = u.pairs; pass = u.pass; known = ks }

-- the answers for other pairs than these
unfoldable pub besides : List Pair → List Known → List Known
besides ps ks = select (λ (k : Known). not (holds ps k.pair)) ks

-- the newest of them, at most n
unfoldable pub newest : (n : ℕ) → List Known → List Known
newest n ks = drop (length ks - n) ks

-- "each pair once, the newest answer"; "When full, it forgets the oldest answer, and that place is used again."
unfoldable pub remember : Known → List Known → List Known
remember k ks = newest (max_answers - 1) (besides (k.pair ∷ []) ks) ++ k ∷ []

-- a look-up that was answered; one that is refused is kept nowhere
unfoldable pub learn : Pair → Lookup → Slave → Slave
learn a (found x b) u = with_known (remember (record { pair = a; address = b }) u.known) u
learn a (not_found n) u = u

-- "empties itself on NOTOK and on any order whose pass differs from the last order's (0 at first)"
unfoldable pub says_not_ok : Order → Bool
says_not_ok (ASK x) = false
says_not_ok (SET x a b o n) = false
says_not_ok OK = false
says_not_ok NOTOK = true
says_not_ok (NEW ps) = false
says_not_ok (INVALID ps) = false
says_not_ok WAIT_SHORT = false
says_not_ok WAIT_LONG = false

unfoldable pub empties : (last : ℕ) → Sent → Bool
empties last s = says_not_ok s.order || not (eqb s.pass last)

-- "drops those named by INVALID"
unfoldable pub named : Order → List Pair
named (ASK x) = []
named (SET x a b o n) = []
named OK = []
named NOTOK = []
named (NEW ps) = []
named (INVALID ps) = ps
named WAIT_SHORT = []
named WAIT_LONG = []

unfoldable pub known_after : (last : ℕ) → List Known → Sent → List Known
known_after last ks s = besides (named s.order) (cond (empties last s) [] ks)

-- "by renumbering its first pair of that block with the old number, if it has one and no other pair of that block has the new"
unfoldable pub without : Pair → List Pair → List Pair
without a [] = []
without a (b ∷ bs) = cond (same_pair a b) bs (b ∷ without a bs)

unfoldable pub rename : (old new : Pair) → List Pair → List Pair
rename a c [] = []
rename a c (b ∷ bs) = cond (same_pair a b) (c ∷ bs) (b ∷ rename a c bs)

abbrev pub pair : (block number : ℕ) → Pair
pair b n = record { block = b; number = n }

unfoldable pub renumbered : (block old new : ℕ) → List Pair → List Pair
renumbered b o n ps = cond (holds (without (pair b o) ps) (pair b n)) ps (rename (pair b o) (pair b n) ps)

-- "It answers an ASK for its own position with its list. It answers a SET for its own position and address .. with its list either way."
unfoldable pub is_answered : Slave → Order → Bool
is_answered u (ASK x) = eqb x u.position
is_answered u (SET x a b o n) = eqb x u.position && eqb a u.address
is_answered u OK = false
is_answered u NOTOK = false
is_answered u (NEW ps) = false
is_answered u (INVALID ps) = false
is_answered u WAIT_SHORT = false
is_answered u WAIT_LONG = false

unfoldable pub obeyed : Order → List Pair → List Pair
obeyed (ASK x) ps = ps
obeyed (SET x a b o n) ps = renumbered b o n ps
obeyed OK ps = ps
obeyed NOTOK ps = ps
obeyed (NEW qs) ps = ps
obeyed (INVALID qs) ps = ps
obeyed WAIT_SHORT ps = ps
obeyed WAIT_LONG ps = ps

-- the unit after an order
unfoldable pub heard : Slave → Sent → Slave
heard u s =
    record {
      position = u.position;
      address = u.address;
      pairs = cond (is_answered u s.order) (obeyed s.order u.pairs) u.pairs;
      pass = s.pass;
      known = known_after u.pass u.known s;
    }

-- what the unit writes: an ANSWER "with its list", of the pass "of the order they answer"
unfoldable pub answer_of : (pass : ℕ) → Slave → List ℕ
answer_of n u = encode_event (ANSWER n u.position u.address u.pairs)

-- what comes of an order: the number given back, the unit afterwards, and the ANSWER that stands at the start of the lent room
pub record Reading : Type 0 where
  pub number : ℕ
  pub unit : Slave
  pub answer : List ℕ

unfoldable pub refuse_order : ℕ → Slave → Reading
refuse_order n u = record { number = n; unit = u; answer = [] }

unfoldable pub on_order : Slave → Option Sent → Reading
on_order u none = refuse_order 2 u
on_order u (some s) = record { number = 0; unit = heard u s; answer = cond (is_answered u s.order) (answer_of s.pass (heard u s)) [] }

-- "lent room below 64 bytes is refused 1, first; an order of wrong length, mark or kind is refused 2 and changes nothing"
unfoldable pub read : Slave → (order : List ℕ) → (room : ℕ) → Reading
read u b room = cond (ltb room min_answer_room) (refuse_order 1 u) (on_order u (decode_order b))

-- what a unit lives through: orders, each with the room lent for its answer, and look-ups
pub data Turn : Type 0 where
  reads : (order : List ℕ) → (room : ℕ) → Turn
  learns : Pair → Lookup → Turn

unfoldable pub turned : Slave → Turn → Slave
turned u (reads b room) = (read u b room).unit
turned u (learns a l) = learn a l u

unfoldable pub lived : Slave → List Turn → Slave
lived u [] = u
lived u (t ∷ ts) = lived (turned u t) ts
