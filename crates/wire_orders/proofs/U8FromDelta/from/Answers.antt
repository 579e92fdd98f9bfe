-- By the order.
use Rattle.rules.specs.Order.{kind_of}
use mathlib.Core.Path.{refl}
use Rattle.wire_orders.proofs.U8FromDelta.from.Goals as goal

pub returns-in-New : goal.returns-in-New
unfolding kind_of
returns-in-New c = rw c.in-New.is refl

pub returns-in-Invalid : goal.returns-in-Invalid
unfolding kind_of
returns-in-Invalid c = rw c.in-Invalid.is refl
