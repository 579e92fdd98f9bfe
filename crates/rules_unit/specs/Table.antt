-- Tables of units and benches: the words that they are written in.
use Rattle.std.specs.Prelude.{ℕ, List, map}
use Rattle.laws.specs.Lists
use Rattle.rules.specs.Picture as Picture
use Rattle.rules.specs.Listing as Listing
use Rattle.rules.specs.Evaluate.{open_picture, open_records, open_steps, open_listing}
use Rattle.rules_unit.specs.Reading
use Rattle.rules_unit.specs.Slave
use Rattle.rules_unit.specs.Bench

-- whoever unfolds this has the unit's definitions unfolded
unfoldable pub open_unit : Unit {0}
unfolding open_records Lists.any Lists.select Lists.collect Picture.same_pair Picture.holds Reading.length_by Reading.order_length Reading.order_by Reading.sent_of Reading.decode_order Reading.orders_from Reading.orders_in Slave.not_made Slave.make Slave.make_number Slave.with_known Slave.besides Slave.newest Slave.remember Slave.learn Slave.says_not_ok Slave.empties Slave.named Slave.known_after Slave.without Slave.rename Slave.renumbered Slave.is_answered Slave.obeyed Slave.heard Slave.answer_of Slave.refuse_order Slave.on_order Slave.read Slave.turned Slave.lived
open_unit = tt

-- what can be given: bytes to make a unit of; a unit and its turns; a bench and its acts
pub data Given : Type 0 where
  to_make : (position address : ℕ) → (pairs : List ℕ) → Given
  turns : (position address : ℕ) → (pairs : List ℕ) → List Slave.Turn → Given
  last_of : (position address : ℕ) → (pairs : List ℕ) → List Slave.Turn → (order : List ℕ) → (room : ℕ) → Given
  acts : (size position address : ℕ) → (pairs : List ℕ) → List Bench.Act → Given

-- what comes of it: a number and a unit; a unit; what the last order gives back; what the unit knows and the master lists
pub data Obtained : Type 0 where
  made : (number : ℕ) → Slave.Slave → Obtained
  unit : Slave.Slave → Obtained
  gives : (number : ℕ) → (answer : List ℕ) → (pairs : List Picture.Pair) → Obtained
  bench : Picture.State → List Slave.Known → List Listing.Entry → Obtained

abbrev pub given : Slave.Reading → Obtained
given r = gives r.number r.answer r.unit.pairs

abbrev pub bench_of : Bench.Bench → Obtained
bench_of b = bench b.master.state b.unit.known (Listing.listing b.master)

unfoldable pub obtain : Given → Obtained
unfolding open_unit open_picture open_steps open_listing Bench.readings Bench.act Bench.acted Bench.fresh_bench
obtain (to_make x a b) = made (Slave.make_number b) (Slave.make x a b)
obtain (turns x a b ts) = unit (Slave.lived (Slave.make x a b) ts)
obtain (last_of x a b ts o room) = given (Slave.read (Slave.lived (Slave.make x a b) ts) o room)
obtain (acts l x a b cs) = bench_of (Bench.acted (Bench.fresh_bench l x a b) cs)

pub record Edge : Type 0 where
  pub given : Given
  pub expected : Obtained

abbrev pub edge : Given → Obtained → Edge
edge g o = record { given = g; expected = o }

-- the two columns of a table: it holds if they are the same
unfoldable pub obtained : List Edge → List Obtained
obtained es = map (λ (e : Edge). obtain e.given) es

unfoldable pub expected : List Edge → List Obtained
expected es = map (λ (e : Edge). e.expected) es
