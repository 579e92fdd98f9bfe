-- One master and one unit in code: a run of calls of `record`, of `read` for each order that a record brought, of look-ups and `learn`;
-- and what the rules say of it.
use Rattle.std.specs.Prelude.{ℕ, ◌≤◌, ◌≡◌, List, [], ◌∷◌, length, take}
use Rattle.laws.specs.Alls.{All}
use Rattle.rules.specs.House.{min_answer_room}
use Rattle.rules.specs.Picture.{Ok, Pair, fresh}
use Rattle.rules.specs.Run.{step}
use Rattle.rules.specs.Listing.{look_up}
use Rattle.rules_unit.specs.Reading.{orders_in}
use Rattle.rules_unit.specs.Slave.{make, learn, read}
use Rattle.rules_unit.specs.Bench.{Act, offers, asks, acted, fresh_bench}
use Rattle.rules_unit.specs.Claims.{IsListed}
use Rattle.registry.specs.declared.image.RegistryImage.{RegistryImage}
use Rattle.registry.specs.declared.record.Recorded.{Recorded}
use Rattle.registry.specs.View.{view_of}
use Rattle.registry.specs.Outcome.{Does}
use Rattle.unit_slave.specs.declared.NetworkSlave.{NetworkSlave}
use Rattle.unit_slave.specs.declared.OrderRead.{OrderRead}
use Rattle.unit_slave.specs.View.{slave_of, Reads}

-- the unit reads these orders one after the other, each with room enough, and each call does what `read` ensures
pub data ReadsAll : NetworkSlave → List (List ℕ) → NetworkSlave → Type 0 where
  no_order_lem : {u : NetworkSlave} → ReadsAll u [] u
  then_order : {u v : NetworkSlave} {order before after : List ℕ} {orders : List (List ℕ)} {r : OrderRead} → min_answer_room ≤ length before
      → Reads u (read (slave_of u) order (length before)) before r after → ReadsAll r.unit orders v → ReadsAll u (order ∷ orders) v

-- A run from a picture and a unit to those that it leaves: a record is taken or refused as `record` ensures, and the unit reads the orders
-- that stand in the lent buffer; or a pair is looked up, and the unit learns the answer.
pub data Plays : RegistryImage → NetworkSlave → List Act → RegistryImage → NetworkSlave → Type 0 where
  no_call : {i : RegistryImage} {u : NetworkSlave} → Plays i u [] i u
  record_call : {i j : RegistryImage} {u v w : NetworkSlave} {bytes before after : List ℕ} {r : Recorded} {acts : List Act}
      → Does i (step (view_of i) bytes (length before)) before r after → ReadsAll u (orders_in (take r.length after)) v → Plays r.picture v acts j w
      → Plays i u (offers (record { bytes = bytes; room = length before }) ∷ acts) j w
  look_up_call : {i j : RegistryImage} {u v w : NetworkSlave} {a : Pair} {acts : List Act}
      → slave_of v ≡ learn a (look_up (view_of i) a) (slave_of u) → Plays i v acts j w → Plays i u (asks a ∷ acts) j w

-- From a fresh picture for L and a unit that is made, every run leaves the picture and the unit that the rules have; so while that picture
-- is OK, every answer that the unit keeps is in its listing with that address.
pub record Follows (l x a : ℕ) (pairs : List ℕ) (acts : List Act) (j : RegistryImage) (w : NetworkSlave) : Type 0 where
  pub picture : view_of j ≡ (acted (fresh_bench l x a pairs) acts).master
  pub unit : slave_of w ≡ (acted (fresh_bench l x a pairs) acts).unit
  pub listed : (view_of j).state ≡ Ok → All (IsListed (view_of j)) (slave_of w).known

pub record Promises : Type 0 where
  pub follows : (l x a : ℕ) (pairs : List ℕ) (acts : List Act) (i j : RegistryImage) (u w : NetworkSlave) → view_of i ≡ fresh l
      → slave_of u ≡ make x a pairs → Plays i u acts j w → Follows l x a pairs acts j w
