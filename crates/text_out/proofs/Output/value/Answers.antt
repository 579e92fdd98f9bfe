-- The value by its letter.
use native.Mathlib.Omega.{arith}
use Rattle.text_out.specs.Putting.{puts_along}
use Rattle.text_out.proofs.Filling.{value_byte, value_word, value_decimal}
use Rattle.text_out.proofs.Output.value.Goals as goal

pub returns-in-98 : goal.returns-in-98
returns-in-98 c = puts_along (value_byte _ c.in-98.is) c.hex.ensures

pub returns-in-119 : goal.returns-in-119
returns-in-119 c = puts_along (value_word _ c.in-119.is) c.hex_pair.ensures

pub returns-in_default : goal.returns-in_default
returns-in_default c = puts_along (value_decimal _ (λ h. omega arith) (λ h. omega arith)) c.decimal.ensures
