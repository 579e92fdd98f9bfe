-- The characters counted, and those of the bytes from `i` on, make the whole.
use Prim.Native.Nat.{◌+◌, ◌≤◌}
use mathlib.Core.Path.{◌≡◌}
use lib.ListN.{length, drop, get_or}
use Rattle.text_in.specs.Lines.{max_line}
use Rattle.text_records.specs.Fields.{gap_of, spaced_from, spaced_of}
use Rattle.text_records.proofs.too_wide.Given as goal

abbrev pub invariant-loop-i : goal.invariant-loop-i
invariant-loop-i l =
    (l.width ≤ max_line + 1) × (l.width + length (spaced_from (gap_of l.layout (get_or l.bytes 2 0)) l.i (drop l.i l.bytes)) ≡ length (spaced_of l.layout l.bytes))
