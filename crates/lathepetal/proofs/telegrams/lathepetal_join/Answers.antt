-- The telegram as it is joined, with the numbers of its answer.
use Rattle.lathepetal.proofs.Segments.{joins}
use Rattle.lathepetal.proofs.telegrams.lathepetal_join.Goals as goal

pub returns : goal.returns
returns c =
    joins c.join-answer.result c.join-answer.ensures c.number_in.ensures c.unwrap_or-message.ensures c.unwrap_or-told.ensures c.is_some.ensures c.from.ensures
