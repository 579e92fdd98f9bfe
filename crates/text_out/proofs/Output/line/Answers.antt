-- The bytes, and then the end of the line.
use Rattle.text_out.specs.Putting.{puts_append}
use Rattle.text_out.proofs.Output.line.Goals as goal

pub returns : goal.returns
returns c = puts_append c.bytes.ensures c.line_end.ensures
