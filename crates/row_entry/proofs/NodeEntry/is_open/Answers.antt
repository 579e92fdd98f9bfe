-- By the status's number.
use mathlib.Core.Path.{sym}
use native.Mathlib.Omega.{arith}
use Rattle.row_entry.proofs.Marks.{open_low, open_high}
use Rattle.row_entry.proofs.NodeEntry.is_open.Goals as goal

pub returns-in-0 : goal.returns-in-0
returns-in-0 c = sym (open_low c.args.self.now (omega arith))

pub returns-in_default : goal.returns-in_default
returns-in_default c = sym (open_high c.args.self.now (omega arith))
