-- What the code's unit stands for, the counts that it shows, and what an order does to it.
use Rattle.std.specs.Prelude.{ℕ, ◌≤◌, ◌≡◌, List, length}
use Rattle.std.proofs.lemmas.List.Edits.{sets}
use Rattle.rules.specs.House.{max_pairs, max_answers}
use Rattle.rules_unit.specs.Slave.{Slave, Reading}
use Rattle.wire_pairs.specs.View.{pairs_of}
use Rattle.unit_answers.specs.View.{answers_of}
use Rattle.unit_slave.specs.declared.NetworkSlave.{NetworkSlave}
use Rattle.unit_slave.specs.declared.OrderRead.{OrderRead}

unfoldable pub slave_of : NetworkSlave → Slave
slave_of u = record { position = u.position.0; address = u.address.0; pairs = pairs_of u.pairs; pass = u.pass; known = answers_of u.known }

-- the counts that a unit shows to who reads it as it is: no more than there are places
pub record Counted (u : NetworkSlave) : Type 0 where
  pub pairs : u.pairs.count ≤ max_pairs
  pub known : u.known.count ≤ max_answers

-- what comes back: the unit, the number given back, how many bytes the ANSWER has, and the lent buffer
pub record Handed : Type 0 where
  pub unit : Slave
  pub number : ℕ
  pub length : ℕ
  pub buffer : List ℕ

-- as the code hands it back
unfoldable pub handed : OrderRead → List ℕ → Handed
handed r buffer = record { unit = slave_of r.unit; number = r.number; length = r.length; buffer = buffer }

-- as the rules have it
unfoldable pub expected : List ℕ → Reading → Handed
expected buffer o = record { unit = o.unit; number = o.number; length = length o.answer; buffer = sets buffer 0 o.answer }

-- What an order does to the unit that came in: what the rules say; a refusal hands back the very unit; and counts stay in their ranges.
pub record Reads (came : NetworkSlave) (o : Reading) (before : List ℕ) (r : OrderRead) (after : List ℕ) : Type 0 where
  pub outcome : handed r after ≡ expected before o
  pub kept : (o.number ≡ 0 → ⊥) → r.unit ≡ came
  pub counts : Counted came → Counted r.unit
