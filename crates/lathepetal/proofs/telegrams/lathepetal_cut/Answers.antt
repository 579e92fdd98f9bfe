-- The telegram as it is cut, with the numbers of its answer.
use native.Mathlib.Omega.{arith}
use lib.ListN.{length}
use Rattle.rules.specs.Telegram.{cut}
use Rattle.lathepetal.proofs.Segments.{cuts}
use Rattle.lathepetal.proofs.telegrams.lathepetal_cut.Goals as goal

pub returns : goal.returns
returns c =
    cuts
    {c = cut c.args.l c.args.msg_id c.args.payload.now c.args.number (length c.args.buffer.now)}
    c.cut-telegram.ensures (omega arith) c.unwrap_or.ensures
