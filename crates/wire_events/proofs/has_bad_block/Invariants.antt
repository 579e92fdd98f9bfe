-- A search: what is left to look at decides.
use Rattle.wire_pairs.specs.View.{pairs_of}
use Rattle.laws.specs.Lists.{any}
use Rattle.rules.specs.Event.{bad_block}
use lib.ListN.{drop}
use mathlib.Core.Path.{◌≡◌}
use Rattle.wire_events.proofs.has_bad_block.Given as goal

abbrev pub invariant-loop-i : goal.invariant-loop-i
invariant-loop-i l = any bad_block (drop l.i (pairs_of l.pairs)) ≡ any bad_block (pairs_of l.pairs)
