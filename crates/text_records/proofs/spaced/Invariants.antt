-- The bytes from `i` on are left to put.
use lib.ListN.{drop, get_or}
use Rattle.text_out.specs.Putting.{Owes}
use Rattle.text_records.specs.Fields.{gap_of, spaced_from, spaced_of}
use Rattle.text_records.proofs.spaced.Given as goal

abbrev pub invariant-loop-i : goal.invariant-loop-i
invariant-loop-i l = Owes l.initial.output (spaced_of l.layout l.bytes) l.output (spaced_from (gap_of l.layout (get_or l.bytes 2 0)) l.i (drop l.i l.bytes))
