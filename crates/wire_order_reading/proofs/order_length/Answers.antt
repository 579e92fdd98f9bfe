-- By the two bytes.
use Rattle.rules_unit.specs.Reading.{order_length}
use Rattle.wire_order_reading.proofs.order_length.Goals as goal

pub returns : goal.returns
unfolding order_length
returns c = cc
