-- By the kind.
use Rattle.rules_unit.specs.Reading.{order_by}
use Prim.Native.Nat.{ℕ}
use mathlib.Core.Option.{Option, some}
use mathlib.Core.Path.{ap}
use Rattle.rules.specs.Order.{Order, ASK}
use borrow.Author.Tests.{ne_eqb}
use native.Mathlib.Omega.{arith}
use Rattle.wire_order_reading.proofs.order_by.Goals as goal

pub returns-in-1 : goal.returns-in-1
unfolding order_by
returns-in-1 c = rw c.in-1.is (ap (λ (x : ℕ). some (ASK x)) c.octet.ensures)

pub returns-in-2 : goal.returns-in-2
unfolding order_by
returns-in-2 c = rw c.in-2.is (ap {B = Option Order} some c.set_in.ensures)

pub returns-in-3 : goal.returns-in-3
unfolding order_by
returns-in-3 c = rw c.in-3.is

pub returns-in-4 : goal.returns-in-4
unfolding order_by
returns-in-4 c = rw c.in-4.is

pub returns-in-5 : goal.returns-in-5
unfolding order_by
returns-in-5 c = rw c.in-5.is

pub returns-in-6 : goal.returns-in-6
unfolding order_by
returns-in-6 c = rw c.in-6.is

pub returns-in-7 : goal.returns-in-7
unfolding order_by
returns-in-7 c = rw c.in-7.is

pub returns-in-8 : goal.returns-in-8
unfolding order_by
returns-in-8 c = rw c.in-8.is

pub returns-in_default : goal.returns-in_default
unfolding order_by
returns-in_default c =
    let k = c.args.kind in
    simp (ne_eqb k 1 (λ e. omega (arith, e)), ne_eqb k 2 (λ e. omega (arith, e)), ne_eqb k 3 (λ e. omega (arith, e)), ne_eqb k 4 (λ e. omega (arith, e)), ne_eqb k 5 (λ e. omega (arith, e)), ne_eqb k 6 (λ e. omega (arith, e)), ne_eqb k 7 (λ e. omega (arith, e)), ne_eqb k 8 (λ e. omega (arith, e)))
