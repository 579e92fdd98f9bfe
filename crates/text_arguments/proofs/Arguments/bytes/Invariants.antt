-- The groups that are left are still to be stored, and the reason is among them.
use Prim.Native.Nat.{◌-◌}
use lib.ListN.{length}
use Rattle.text_arguments.proofs.Groups.{LeftOf}
use Rattle.text_arguments.proofs.Arguments.bytes.Given as goal

abbrev pub invariant-loop-group : goal.invariant-loop-group
invariant-loop-group l = LeftOf l.initial.rest l.rest l.initial.bytes l.count l.bytes

abbrev pub decreases-loop-group : goal.decreases-loop-group
decreases-loop-group l = length l.rest.line.now - l.rest.at
