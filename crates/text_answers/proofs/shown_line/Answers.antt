-- A blank stands before bytes only.
use Rattle.text_out.specs.Putting.{puts_append, puts_along}
use Rattle.text_answers.proofs.Parts.{spaced_none, spaced_some}
use Rattle.text_answers.proofs.shown_line.Goals as goal

pub returns-then-is_empty : goal.returns-then-is_empty
returns-then-is_empty c = puts_along (spaced_none _ c.is_empty.ensures c.if-is_empty.true) c.line_end.ensures

pub returns : goal.returns
returns c = puts_along (spaced_some _ c.is_empty.ensures c.if-is_empty.false) (puts_append c.byte.ensures c.line.ensures)
