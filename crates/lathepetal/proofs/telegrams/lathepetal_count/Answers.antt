-- The numbers of the count.
use Rattle.rules.specs.Telegram.{count}
use Rattle.lathepetal.proofs.Segments.{counts}
use Rattle.lathepetal.proofs.telegrams.lathepetal_count.Goals as goal

pub returns : goal.returns
returns c =
    counts (count c.args.l c.args.payload.now) c.count-answer.result c.count-answer.ensures c.number_in.ensures c.unwrap_or.ensures
