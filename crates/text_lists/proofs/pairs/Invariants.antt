-- The words that are left are still to be taken, and the reason is among them.
use Prim.Native.Nat.{◌-◌}
use lib.ListN.{length}
use Rattle.text_lists.proofs.PairWords.{LeftOf}
use Rattle.text_lists.proofs.pairs.Given as goal

abbrev pub invariant-loop-word : goal.invariant-loop-word
invariant-loop-word l = LeftOf l.initial.rest l.rest l.initial.bytes l.count l.bytes

abbrev pub decreases-loop-word : goal.decreases-loop-word
decreases-loop-word l = length l.rest.line.now - l.rest.at
