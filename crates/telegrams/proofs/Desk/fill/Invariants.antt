-- `fill` has room for each byte: no more stand there than it has put.
use Rattle.std.proofs.Common.{◌≤◌}
use Rattle.arrayvec.specs.ArrayVec.{array_vec_len}
use Rattle.telegrams.proofs.Desk.fill.Given as goal

abbrev pub invariant-loop-i : goal.invariant-loop-i
invariant-loop-i l = array_vec_len l.self.payload ≤ l.i
