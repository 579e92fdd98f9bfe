-- A search, two bytes at a time: what is left to look at decides.
use mathlib.Core.Path.{◌≡◌}
use Rattle.rules.specs.Event.{read_pairs}
use Rattle.rules.specs.Picture.{holds}
use Rattle.wire_pairs.specs.View.{pair_in}
use Rattle.unit_answers.proofs.names.Given as goal

abbrev pub invariant-loop-bytes : goal.invariant-loop-bytes
invariant-loop-bytes l =
    (goal.iterator-loop-bytes).can_next l.bytes-iterator × (goal.iterator-loop-bytes).is_finite l.bytes-iterator
    × (l.bytes-iterator.size ≡ 2)
    × (holds (read_pairs l.bytes-iterator.rest.now) (pair_in l.pair) ≡ holds (read_pairs l.named) (pair_in l.pair))
