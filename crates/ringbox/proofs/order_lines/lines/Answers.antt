-- An order has a head, so that the next one begins behind it.
use Prim.Native.Nat.{◌≤◌}
use mathlib.Core.Path.{◌≡◌, ◌∙◌}
use native.Mathlib.Omega.{arith}
use borrow.Author.Tests.{eq-eqb}
use lib.ListN.{length}
use Rattle.laws.specs.Bools.{clash}
use Rattle.wire_order_reading.proofs.Lengths.{head_there}
use Rattle.ringbox.proofs.order_lines.lines.Goals as goal

pub loop-rest-smaller : goal.loop-rest-smaller
loop-rest-smaller c =
    let head : 7 ≤ c.order_length.result = rw c.order_length.ensures (head_there _) in
    let some : length c.loop-rest.rest.now ≡ 0 → ⊥ = λ h. clash (c.is_empty.ensures ∙ eq-eqb _ 0 h) c.loop-rest-test.true in
    omega (arith, head, some, c.min.ensures, c.split_at.ensures.back_len)
