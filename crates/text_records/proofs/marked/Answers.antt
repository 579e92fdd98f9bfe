-- The mark, and the bytes behind a blank where there are some.
use Rattle.text_out.specs.Putting.{puts_append, puts_along}
use Rattle.text_records.proofs.Spacing.{marked_none, marked_some}
use Rattle.text_records.proofs.marked.Goals as goal

pub returns-then-is_empty : goal.returns-then-is_empty
returns-then-is_empty c = puts_along (marked_none _ _ _ c.is_empty.ensures c.if-is_empty.true) (puts_append c.byte.ensures c.line_end.ensures)

pub returns : goal.returns
returns c =
    puts_along (marked_some _ _ _ c.is_empty.ensures c.if-is_empty.false)
    (puts_append c.byte.ensures (puts_append c.byte-2.ensures (puts_append c.spaced.ensures c.line_end-2.ensures)))
