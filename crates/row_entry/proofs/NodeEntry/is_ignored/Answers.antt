-- By the status's number.
use mathlib.Core.Path.{sym}
use native.Mathlib.Omega.{arith}
use Rattle.row_entry.proofs.Marks.{ignored_low, ignored_high}
use Rattle.row_entry.proofs.NodeEntry.is_ignored.Goals as goal
use Rattle.row_entry.proofs.NodeEntry.is_ignored.Goals.{in-0, in_default}

pub returns : goal.returns
returns c =
    elim c.if-matches.branch [
      | in-0 w ↦ rw w.matches-is (sym (ignored_low c.args.self.now (omega arith)))
      | in_default w ↦ rw w.matches-is (sym (ignored_high c.args.self.now (omega arith)))
    ]
