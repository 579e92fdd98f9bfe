-- `write_head` stores the MsgID, and behind it the two other bytes of the head.
use Rattle.rules.specs.Event.{four, two}
use Rattle.rules.specs.Telegram.{head_bytes}
use lib.ListN.{set}
use Rattle.tel_head.proofs.write_head.Goals as goal

pub returns : goal.returns
unfolding four two head_bytes
returns c =
    λ i. set (set (c.write4.ensures i) 4 (c.pack.ensures i)) 5 (c.low.ensures i)
