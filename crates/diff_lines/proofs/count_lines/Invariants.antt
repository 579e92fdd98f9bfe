-- At every turn the lines that are left make the whole.
use Prim.Native.Nat.{◌+◌, ◌*◌, ◌≤◌}
use mathlib.Core.Path.{◌≡◌}
use lib.ListN.{length}
use Rattle.rules.specs.House.{max_lines, max_lines_each}
use Rattle.diff_lines.specs.Comparing.{seen, lines_over}
use Rattle.diff_lines.proofs.count_lines.Given as goal

abbrev pub invariant-loop-first : goal.invariant-loop-first
invariant-loop-first l =
    (goal.iterator-loop-first).can_next l.first-iterator × (goal.iterator-loop-first).is_finite l.first-iterator
    × (l.n + max_lines_each * length l.first-iterator.a.rest.now ≤ max_lines)
    × (l.n + length (lines_over 1 (seen l.first-iterator.a.rest.now) (seen l.first-iterator.b.rest.now)) ≡ length (lines_over 1 (seen l.before) (seen l.after)))
