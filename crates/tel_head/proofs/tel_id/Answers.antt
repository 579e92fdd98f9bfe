-- `tel_id` is the high half of byte 4.
use borrow.Author.Rules.{rules}
use Rattle.rules.specs.Telegram.{tel_id_of}
use Rattle.tel_head.proofs.tel_id.Goals as goal

pub returns : goal.returns
unfolding tel_id_of
returns c = search rules
