-- A word is left, or none.
use Rattle.text_arguments.proofs.Taking.{end_more, end_none}
use Rattle.text_arguments.proofs.Arguments.end.Goals as goal

pub returns-then-word_start-self : goal.returns-then-word_start-self
returns-then-word_start-self c = end_more _ _ c.word_start.ensures.0 c.if-word_start-self.true

pub returns : goal.returns
returns c = end_none _ _ c.word_start.ensures.0 c.if-word_start-self.false
