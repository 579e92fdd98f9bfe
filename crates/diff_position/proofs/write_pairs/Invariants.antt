-- At every turn the lines that are left, written from here on, make the whole.
use mathlib.Core.Path.{◌≡◌}
use lib.ListN.{drop, length}
use Rattle.laws.specs.Buffers.{Owes}
use Rattle.laws.specs.Lists.{collect}
use Rattle.wire_pairs.specs.View.{pairs_of}
use Rattle.diff_changes.specs.Changes.{number_of}
use Rattle.diff_position.specs.Lines.{pair_line}
use Rattle.diff_position.proofs.write_pairs.Given as goal

abbrev pub invariant-loop-i : goal.invariant-loop-i
invariant-loop-i l =
    (length l.out ≡ length l.initial.out)
    × Owes l.initial.out l.at (collect (pair_line (number_of l.kind) l.position.0) (pairs_of l.pairs)) l.end l.out (collect (pair_line (number_of l.kind) l.position.0) (drop l.i (pairs_of l.pairs)))
