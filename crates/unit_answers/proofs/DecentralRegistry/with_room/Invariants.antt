-- One place down, one at a time: those moved so far, and those behind the place.
use Prim.Native.Nat.{◌+◌}
use Rattle.unit_answers.specs.View.{answers_of}
use lib.ListN.{drop}
use mathlib.Core.List.{◌++◌}
use mathlib.Core.Path.{◌≡◌}
use Rattle.unit_answers.proofs.DecentralRegistry.with_room.Given as goal

abbrev pub invariant-loop-i : goal.invariant-loop-i
invariant-loop-i l = record { moved : l.later.count + 1 ≡ l.i; found : answers_of l.later ++ drop l.i (answers_of l.self) ≡ drop 1 (answers_of l.self) }
