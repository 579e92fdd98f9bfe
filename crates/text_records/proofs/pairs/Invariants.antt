-- The pairs of the bytes that the chunks have left are left to put.
use mathlib.Core.Path.{◌≡◌}
use Rattle.text_out.specs.Putting.{Owes}
use Rattle.text_records.specs.Fields.{pair_words}
use Rattle.text_records.proofs.pairs.Given as goal

abbrev pub invariant-loop-two : goal.invariant-loop-two
invariant-loop-two l = (l.two-iterator.size ≡ 2) × Owes l.initial.output (pair_words l.bytes) l.output (pair_words l.two-iterator.rest.now)
