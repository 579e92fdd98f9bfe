-- Everything that is promised of the rules of the unit, with all its premises: one record, proved in proofs/Promises.antt.
use Rattle.std.specs.Prelude.{ℕ, ◌≤◌, ◌≡◌, List}
use Rattle.std.proofs.Math.Option.{some}
use Rattle.rules.specs.Picture.{Pair}
use Rattle.rules.specs.Order.{Order}
use Rattle.rules.specs.Run.{Sent}
use Rattle.rules_unit.specs.Reading.{decode_order}
use Rattle.rules_unit.specs.Slave.{Slave, Turn}
use Rattle.rules_unit.specs.Bench.{Act}
use Rattle.rules_unit.specs.Claims.{Coherent, Makes, Lives, Checks, Answers, Obeys, Forgets, Learns, DecodesOrder, DecodesOrdersOnly, TakesApart}
use Rattle.rules_unit.specs.Table.{obtained, expected}
use Rattle.rules_unit.specs.Edges.{unit_edges}

pub record Promises : Type 0 where
  -- of every list of records and look-ups, from a fresh picture for L and a unit made of any bytes
  pub coherent : (l x a : ℕ) (pairs : List ℕ) (acts : List Act) → Coherent l x a pairs acts
  -- of every list of pairs
  pub makes : (x a : ℕ) (pairs : List Pair) → Makes x a pairs
  -- of every list of orders and look-ups, from a unit made of any bytes
  pub lives : (x a : ℕ) (pairs : List ℕ) (turns : List Turn) → Lives x a pairs turns
  -- of every unit, every run of bytes and every room
  pub checks : (u : Slave) (order : List ℕ) (room : ℕ) → Checks u order room
  pub answers : (u : Slave) (order : List ℕ) (room : ℕ) → Answers u order room
  pub obeys : (u : Slave) (order : List ℕ) (room : ℕ) → Obeys u order room
  -- of every unit, and every order that is read with enough room
  pub forgets : (u : Slave) (order : List ℕ) (room : ℕ) (s : Sent) → 64 ≤ room → decode_order order ≡ some s → Forgets u order room s
  -- of every unit, every pair and every place where it may be found
  pub learns : (u : Slave) (a : Pair) (position address : ℕ) → Learns u a position address
  -- of every order, every run of bytes and every run of orders
  pub decodes_order : (pass : ℕ) (o : Order) → DecodesOrder pass o
  pub decodes_orders_only : (b : List ℕ) → DecodesOrdersOnly b
  pub takes_apart : (pass : ℕ) (os : List Order) → TakesApart pass os
  -- by computation
  pub edges : obtained unit_edges ≡ expected unit_edges
