-- What is left to look at decides.
use Prim.Native.Nat.{◌-◌}
use Rattle.row_renumber.specs.Marks.{is_marked, least_by}
use mathlib.Core.Path.{◌≡◌}
use Rattle.row_renumber.proofs.free.least_unmarked.Given as goal

abbrev pub invariant-loop-number : goal.invariant-loop-number
invariant-loop-number l = least_by (is_marked l.table) (255 - l.number) l.number ≡ least_by (is_marked l.table) 254 1
