-- By the status's number.
use mathlib.Core.Path.{sym}
use native.Mathlib.Omega.{arith}
use Rattle.row_entry.proofs.Marks.{listed_low, listed_mid, listed_high}
use Rattle.row_entry.proofs.NodeEntry.is_listed.Goals as goal

pub returns-in-1 : goal.returns-in-1
returns-in-1 c = sym (listed_mid c.args.self.now (omega arith) (omega arith))

pub returns-in_default : goal.returns-in_default
returns-in_default c = sym (listed_low c.args.self.now (omega arith))

pub returns-in_default-2 : goal.returns-in_default-2
returns-in_default-2 c = sym (listed_high c.args.self.now (omega arith))
