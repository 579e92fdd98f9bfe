-- The remainder by 256, by mask.
use lib.Bits.{and_mask, mask_lt}
use Rattle.wire_octets.proofs.low.Goals as goal

pub overflow_cast-result : goal.overflow_cast-result
overflow_cast-result c = record { fits = mask_lt c.args.n 8 }

pub returns : goal.returns
returns c = and_mask c.args.n 8
