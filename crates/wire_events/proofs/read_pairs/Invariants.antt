-- At every turn the pairs read so far and those that still stand there are all pairs.
use Prim.Native.Nat.{◌*◌}
use Rattle.rules.specs.Event.{read_pairs}
use Rattle.wire_pairs.specs.View.{pairs_of}
use lib.ListN.{drop, length}
use mathlib.Core.List.{◌++◌}
use mathlib.Core.Path.{◌≡◌}
use Rattle.wire_events.proofs.read_pairs.Given as goal

abbrev pub invariant-loop-i : goal.invariant-loop-i
invariant-loop-i l = record { count : l.pairs.count ≡ l.i; length : length (pairs_of l.pairs) ≡ l.i; whole : pairs_of l.pairs ++ read_pairs (drop (2 * l.i) l.bytes) ≡ read_pairs l.bytes }
