-- Field by field.
use Prim.Native.Nat.{◌+◌, ◌*◌}
use mathlib.Core.Path.{◌∙◌}
use Rattle.rules.specs.Event.{be2}
use Rattle.rules.specs.Order.{SET}
use Rattle.wire_order_reading.proofs.set_in.Goals as goal

pub returns : goal.returns
unfolding be2
returns c =
    let address = c.word.ensures.0 ∙ (λ t. c.octet-high.ensures t * 256 + c.octet-low.ensures t) in
    λ t. SET (c.octet.ensures t) (address t) (c.octet-2.ensures t) (c.octet-3.ensures t) (c.octet-4.ensures t)
