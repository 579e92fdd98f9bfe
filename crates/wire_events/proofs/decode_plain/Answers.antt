-- By the kind.
use mathlib.Core.Bool.{Bool}
use mathlib.Core.Path.{◌∙◌, ap}
use native.Mathlib.Omega.{arith}
use borrow.Author.Tests.{ne_eqb}
use Rattle.rules.specs.Event.{START, NCE, SHUTDOWN, check, decode_plain}
use Rattle.wire_events.specs.View.{event_in}
use Rattle.wire_events.proofs.Readings.{checked}
use Rattle.wire_events.proofs.decode_plain.Goals as goal

pub returns-in-1 : goal.returns-in-1
unfolding decode_plain
returns-in-1 c = rw c.in-1.is (ap event_in c.then_some.ensures ∙ checked _ _ ∙ ap (λ (b : Bool). check b (START c.args.x)) c.scan_fields_fit.ensures)

pub returns-in-2 : goal.returns-in-2
unfolding decode_plain
returns-in-2 c = rw c.in-2.is (ap event_in c.then_some-in-2.ensures ∙ checked _ _ ∙ ap (λ (b : Bool). check b (NCE c.args.x)) c.scan_fields_fit-in-2.ensures)

pub returns-in-3 : goal.returns-in-3
unfolding decode_plain
returns-in-3 c = rw c.in-3.is (ap event_in c.then_some-in-3.ensures ∙ checked _ _ ∙ ap (λ (b : Bool). check b SHUTDOWN) c.are_unused.ensures)

pub returns-in-5 : goal.returns-in-5
unfolding decode_plain
returns-in-5 c = rw c.in-5.is

pub returns-in-6 : goal.returns-in-6
unfolding decode_plain
returns-in-6 c = rw c.in-6.is (ap event_in c.then_some-in-6.ensures ∙ checked _ _)

pub returns-in_default : goal.returns-in_default
unfolding decode_plain
returns-in_default c =
    let k = c.args.kind in
    simp (ne_eqb k 1 (λ e. omega (arith, e)), ne_eqb k 2 (λ e. omega (arith, e)), ne_eqb k 3 (λ e. omega (arith, e)), ne_eqb k 5 (λ e. omega (arith, e)), ne_eqb k 6 (λ e. omega (arith, e)))
