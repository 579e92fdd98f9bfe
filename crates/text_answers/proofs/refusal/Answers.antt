-- The number, and then what it means.
use Rattle.text_out.specs.Putting.{puts_append, puts_along}
use Rattle.text_answers.proofs.Parts.{refusal_is}
use Rattle.text_answers.proofs.refusal.Goals as goal

pub returns : goal.returns
returns c = puts_along (refusal_is _ c.from.ensures) (puts_append c.form.ensures c.meaning.ensures)
