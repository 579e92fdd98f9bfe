-- By the status's number.
use Rattle.row_entry.proofs.Marks.{silent_mark}
use Rattle.row_entry.proofs.NodeEntry.is_silent.Goals as goal

pub returns : goal.returns
returns c = silent_mark c.args.self.now
