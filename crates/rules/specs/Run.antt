-- One record, and a list of records from a fresh picture.
use Rattle.std.specs.Prelude.{ℕ, not, List, [], ◌∷◌, ◌++◌, map, ltb, length}
use Rattle.std.proofs.Math.Option.{Option, none, some}
use Rattle.std.proofs.lemmas.List.Edits.{sets}
use Rattle.rules.specs.House.{min_room}
use Rattle.rules.specs.Picture.{Picture}
use Rattle.rules.specs.Event.{Event, decode}
use Rattle.rules.specs.Order.{Order, encode_all}
use Rattle.rules.specs.Step.{Response, refuse, change, refuse_if, takes, not_taken, respond}
use Rattle.rules.specs.Ending.{orders_of, picture_of}

-- "A record goes in and the next ring picture comes back, with the orders written to a lent buffer."
pub data Outcome : Type 0 where
  refused : (number : ℕ) → Outcome
  taken : Picture → List Order → Outcome

-- "Records are checked in the order 1 to 9": 3 and 4 by the table of states by kinds, 5 to 9 by the event's own step
unfoldable pub on_event : Picture → Event → Response
on_event p e = refuse_if (not (takes p.state e)) (not_taken e) (respond p e)

unfoldable pub on_decoded : Picture → Option Event → Response
on_decoded p none = refuse 2
on_decoded p (some e) = on_event p e

unfoldable pub concluded : Picture → Response → Outcome
concluded p (refuse n) = refused n
concluded p (change c) = taken (picture_of c) (orders_of p c)

-- the step of one record: 1: "room below 8,192 bytes"; 2: "record malformed"
unfoldable pub step : Picture → List ℕ → (room : ℕ) → Outcome
step p bytes room = concluded p (refuse_if (ltb room min_room) 1 (on_decoded p (decode bytes)))

-- a record as it is offered: its bytes, and the order room lent with it
pub record Record : Type 0 where
  pub bytes : List ℕ
  pub room : ℕ

abbrev pub offered : Picture → Record → Outcome
offered p r = step p r.bytes r.room

-- the picture that a record leaves: "A refusal .. changes nothing"
unfoldable pub left : Picture → Outcome → Picture
left p (refused n) = p
left p (taken q os) = q

-- an order as it is given out, with the pass that it carries: "Orders carry the pass after the event."
pub record Sent : Type 0 where
  pub pass : ℕ
  pub order : Order

unfoldable pub sent_with : ℕ → Order → Sent
sent_with n o = record { pass = n; order = o }

unfoldable pub sent_by : Outcome → List Sent
sent_by (refused n) = []
sent_by (taken q os) = map (sent_with q.pass) os

-- the bytes written to the lent buffer, from its start
unfoldable pub written : Outcome → List ℕ
written (refused n) = []
written (taken q os) = encode_all q.pass os

-- the lent buffer afterwards
unfoldable pub lent : List ℕ → Outcome → List ℕ
lent buffer o = sets buffer 0 (written o)

-- the number given back; 0 where the record is taken
unfoldable pub number_of : Outcome → ℕ
number_of (refused n) = n
number_of (taken q os) = 0

abbrev pub next : Picture → Record → Picture
next p r = left p (offered p r)

-- a list of records, each meeting the picture that the one before it left
unfoldable pub after : Picture → List Record → Picture
after p [] = p
after p (r ∷ rs) = after (next p r) rs

-- the history of the orders that they gave out
unfoldable pub history : Picture → List Record → List Sent
history p [] = []
history p (r ∷ rs) = sent_by (offered p r) ++ history (next p r) rs

-- what the box gives back for one record: its number, the length of the orders and their bytes
pub record Result : Type 0 where
  pub number : ℕ
  pub length : ℕ
  pub bytes : List ℕ

unfoldable pub result_of : Outcome → Result
result_of o = record { number = number_of o; length = length (written o); bytes = written o }

unfoldable pub results : Picture → List Record → List Result
results p [] = []
results p (r ∷ rs) = result_of (offered p r) ∷ results (next p r) rs
