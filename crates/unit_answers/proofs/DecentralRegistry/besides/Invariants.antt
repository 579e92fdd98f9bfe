-- At every turn the answers kept so far and those that stay of the rest are all that stay.
use Prim.Native.Nat.{◌≤◌}
use Rattle.rules.specs.Event.{read_pairs}
use Rattle.rules_unit.specs.Slave.{besides}
use Rattle.unit_answers.specs.View.{answers_of}
use lib.ListN.{drop}
use mathlib.Core.List.{◌++◌}
use mathlib.Core.Path.{◌≡◌}
use Rattle.unit_answers.proofs.DecentralRegistry.besides.Given as goal

abbrev pub invariant-loop-i : goal.invariant-loop-i
invariant-loop-i l = record { few : l.left.count ≤ l.i; found : answers_of l.left ++ besides (read_pairs l.named) (drop l.i (answers_of l.self)) ≡ besides (read_pairs l.named) (answers_of l.self) }
