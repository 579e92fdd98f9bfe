-- At every turn the lines that are left, written from here on, make the whole.
use Prim.Native.Nat.{◌+◌, ◌≤◌}
use mathlib.Core.Path.{◌≡◌}
use lib.ListN.{length}
use Rattle.laws.specs.Buffers.{Owes}
use Rattle.rules.specs.House.{max_units}
use Rattle.rules_diff.specs.Differences.{lines_bytes}
use Rattle.diff_lines.specs.Comparing.{seen, lines_over}
use Rattle.diff_lines.proofs.write_lines.Given as goal

abbrev pub invariant-loop-i : goal.invariant-loop-i
invariant-loop-i l =
    (goal.iterator-loop-i).can_next l.i-iterator × (goal.iterator-loop-i).is_finite l.i-iterator
    × (length l.out ≡ length l.initial.out)
    × (l.i-iterator.count + length l.i-iterator.iter.a.rest.now ≤ max_units)
    × Owes l.initial.out 0 (lines_bytes (lines_over 1 (seen l.before) (seen l.after))) l.end l.out (lines_bytes (lines_over (l.i-iterator.count + 1) (seen l.i-iterator.iter.a.rest.now) (seen l.i-iterator.iter.b.rest.now)))
