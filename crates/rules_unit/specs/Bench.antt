-- One master and one unit on the bench: records, each followed by the unit's reading of all orders that it brought, and look-ups between.
use Rattle.std.specs.Prelude.{ℕ, List, [], ◌∷◌, map}
use Rattle.rules.specs.House.{min_answer_room}
use Rattle.rules.specs.Picture.{Pair, Picture, fresh}
use Rattle.rules.specs.Run.{Record, offered, written, next}
use Rattle.rules.specs.Listing.{look_up}
use Rattle.rules_unit.specs.Reading.{orders_in}
use Rattle.rules_unit.specs.Slave.{Slave, make, Turn, reads, learns, turned, lived}

pub record Bench : Type 0 where
  pub master : Picture
  pub unit : Slave

-- "one master and one unit that has read all orders so far, .. each look-up asked and answered between events"
pub data Act : Type 0 where
  offers : Record → Act
  asks : Pair → Act

-- the orders that the master wrote, as the unit reads them
unfoldable pub readings : List ℕ → List Turn
readings b = map (λ (o : List ℕ). reads o min_answer_room) (orders_in b)

unfoldable pub act : Bench → Act → Bench
act b (offers r) = record { master = next b.master r; unit = lived b.unit (readings (written (offered b.master r))) }
act b (asks a) = record { master = b.master; unit = turned b.unit (learns a (look_up b.master a)) }

unfoldable pub acted : Bench → List Act → Bench
acted b [] = b
acted b (a ∷ rest) = acted (act b a) rest

-- "both fresh at first"
unfoldable pub fresh_bench : (size position address : ℕ) → (pairs : List ℕ) → Bench
fresh_bench l x a b = record { master = fresh l; unit = make x a b }
