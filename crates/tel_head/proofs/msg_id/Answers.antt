-- `msg_id` is the first four bytes: two words, by shift.
use Rattle.laws.specs.Bits.{shift_or}
use Rattle.rules.specs.Event.{be2, be4}
use native.Mathlib.Omega.{arith}
use Rattle.tel_head.proofs.msg_id.Goals as goal

pub returns : goal.returns
unfolding be4 be2
returns c = omega (arith, shift_or 32 16 c.word-high.result c.word-low.result (omega arith) (omega arith))
