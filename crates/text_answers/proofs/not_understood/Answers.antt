-- The comment's parts, one after the other.
use Rattle.text_out.specs.Putting.{puts_append, puts_along}
use Rattle.text_answers.proofs.Parts.{comment_is}
use Rattle.text_answers.proofs.not_understood.Goals as goal

pub returns : goal.returns
returns c =
    puts_along (comment_is _ _ c.told-why_not.ensures c.shown.ensures)
    (puts_append (puts_append (puts_append c.byte.ensures c.shown_line.ensures) c.bytes.ensures) c.why.ensures)
