-- By the kind.
use Rattle.rules_unit.specs.Reading.{length_by}
use Rattle.wire_order_reading.proofs.Lengths.{listing_length, plain_length}
use native.Mathlib.Omega.{arith}
use Rattle.wire_order_reading.proofs.length_by.Goals as goal

pub returns-in-1 : goal.returns-in-1
unfolding length_by
returns-in-1 c = rw c.in-1.is

pub returns-in-2 : goal.returns-in-2
unfolding length_by
returns-in-2 c = rw c.in-2.is

pub returns-in-5 : goal.returns-in-5
returns-in-5 c = rw c.from.ensures (listing_length c.args.kind c.args.count (omega arith) (omega arith))

pub returns-in_default : goal.returns-in_default
returns-in_default c = plain_length c.args.kind c.args.count (λ e. omega (arith, e)) (λ e. omega (arith, e)) (λ e. omega (arith, e)) (λ e. omega (arith, e))

pub returns-in_default-2 : goal.returns-in_default-2
returns-in_default-2 c = plain_length c.args.kind c.args.count (λ e. omega (arith, e)) (λ e. omega (arith, e)) (λ e. omega (arith, e)) (λ e. omega (arith, e))
