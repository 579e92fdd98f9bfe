-- By the notice.
use Rattle.rules.specs.Order.{kind_of}
use mathlib.Core.Path.{refl}
use Rattle.wire_orders.proofs.U8FromNotice.from.Goals as goal

pub returns-in-Ok : goal.returns-in-Ok
unfolding kind_of
returns-in-Ok c = rw c.in-Ok.is refl

pub returns-in-NotOk : goal.returns-in-NotOk
unfolding kind_of
returns-in-NotOk c = rw c.in-NotOk.is refl

pub returns-in-WaitShort : goal.returns-in-WaitShort
unfolding kind_of
returns-in-WaitShort c = rw c.in-WaitShort.is refl

pub returns-in-WaitLong : goal.returns-in-WaitLong
unfolding kind_of
returns-in-WaitLong c = rw c.in-WaitLong.is refl
