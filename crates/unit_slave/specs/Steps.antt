-- A unit on its way through an order, and what the steps of an order promise.
use Rattle.std.specs.Prelude.{ℕ, ◌≤◌, ◌≡◌, Bool, true, false, cond, List, [], eqb, Result, Ok, Err}
use Rattle.rules.specs.House.{max_pairs}
use Rattle.rules.specs.Picture.{Pair}
use Rattle.rules.specs.Event.{read_pairs}
use Rattle.rules.specs.Listing.{Lookup, found, not_found}
use Rattle.rules_unit.specs.Slave.{Slave, not_made}
use Rattle.numbers.specs.declared.Refusal.{Refusal}
use Rattle.numbers.specs.Numbers.{number_of}
use Rattle.ring_lookup.specs.declared.Place.{Place}
use Rattle.wire_pairs.specs.declared.Pairs.{Pairs}
use Rattle.wire_pairs.specs.View.{pairs_of}
use Rattle.unit_slave.specs.declared.NetworkSlave.{NetworkSlave}
use Rattle.unit_slave.specs.declared.OrderRead.{OrderRead}
use Rattle.unit_slave.specs.View.{slave_of, Counted}

-- a unit that has read no order
unfoldable pub unread : (position address : ℕ) → List Pair → Slave
unread x a ps = record { position = x; address = a; pairs = ps; pass = 0; known = [] }

-- an order of this pass is read: the answers are gone; or only where the last one had another pass
unfoldable pub emptied_on : (pass : ℕ) → Slave → Slave
emptied_on n u = record { position = u.position; address = u.address; pairs = u.pairs; pass = n; known = [] }

unfoldable pub on_pass : (pass : ℕ) → Slave → Slave
on_pass n u = record { position = u.position; address = u.address; pairs = u.pairs; pass = n; known = cond (eqb n u.pass) u.known [] }

unfoldable pub with_pairs : List Pair → Slave → Slave
with_pairs ps u = record { position = u.position; address = u.address; pairs = ps; pass = u.pass; known = u.known }

-- a unit becomes another, and its counts stay in their ranges
pub record Becomes (came : NetworkSlave) (v : Slave) (r : NetworkSlave) : Type 0 where
  pub unit : slave_of r ≡ v
  pub counts : Counted came → Counted r

-- the pairs of a unit, read from bytes, or why they are refused
abbrev pub PairsRead : List ℕ → Result Pairs Refusal → Type 0
PairsRead b (Ok p) = (not_made b ≡ false) × (pairs_of p ≡ read_pairs b) × (p.count ≤ max_pairs)
PairsRead b (Err r) = (not_made b ≡ true) × (number_of r ≡ 2)

-- what comes back of an order that was read
abbrev pub read_as : Result ℕ Refusal → NetworkSlave → OrderRead
read_as (Ok n) u = record { number = 0; length = n; unit = u }
read_as (Err r) u = record { number = number_of r; length = 0; unit = u }

-- a look-up that is refused
unfoldable pub is_refusal : Lookup → Bool
is_refusal (found x a) = false
is_refusal (not_found n) = true

-- A look-up of the rules that an answer in code stands for: the pair is listed at this place, or refused, by a number that the error tells.
abbrev pub StandsFor : {E : Type 0} → Result Place E → Lookup → Type 0
StandsFor (Ok p) l = l ≡ found p.position.0 p.address.0
StandsFor (Err e) l = is_refusal l ≡ true
