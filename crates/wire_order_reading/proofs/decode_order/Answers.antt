-- Length, mark and kind, in the code's order.
use native.Mathlib.Omega.{arith}
use Rattle.rules_unit.specs.Reading.{decode_order, sent_of}
use Rattle.wire_order_reading.proofs.Lengths.{head_there}
use borrow.Author.Tests.{eq-eqb, ne_eqb}
use mathlib.Core.Path.{◌∙◌, ap}
use Rattle.std.specs.Prelude.{Option}
use Rattle.rules.specs.Event.{be4}
use Rattle.wire_order_reading.specs.View.{record_in}
use Rattle.wire_order_reading.specs.declared.OrderRecord.{OrderRecord}
use Rattle.wire_order_reading.proofs.decode_order.Goals as goal
use Rattle.wire_order_reading.proofs.decode_order.Goals.{then-bytes-ne-MARK_FIRST-via-then-bytes-ne-MARK_FIRST, then-bytes-ne-MARK_FIRST-via-else-bytes-ne-MARK_FIRST+then-bytes-ne-MARK_SECOND}

pub returns-then-bytes-order_length : goal.returns-then-bytes-order_length
unfolding decode_order sent_of
returns-then-bytes-order_length c = simp (← c.order_length.ensures, ne_eqb _ _ c.if-bytes-order_length.true)

pub bounds-bytes-0 : goal.bounds-bytes-0
bounds-bytes-0 c = omega (arith, head_there c.args.bytes.now)

pub bounds-bytes-1 : goal.bounds-bytes-1
bounds-bytes-1 c = omega (arith, head_there c.args.bytes.now)

pub bounds-bytes-2 : goal.bounds-bytes-2
bounds-bytes-2 c = omega (arith, head_there c.args.bytes.now)

pub read4-requires : goal.read4-requires
read4-requires c = omega (arith, head_there c.args.bytes.now)

pub returns-then-bytes-ne-MARK_FIRST : goal.returns-then-bytes-ne-MARK_FIRST
unfolding decode_order sent_of
returns-then-bytes-ne-MARK_FIRST c =
    elim c.then-bytes-ne-MARK_FIRST.branch [
      | then-bytes-ne-MARK_FIRST-via-then-bytes-ne-MARK_FIRST w ↦
          simp (← c.order_length.ensures, eq-eqb _ _ c.if-bytes-order_length.false, ne_eqb _ _ w.if-bytes-ne-MARK_FIRST.true)
      | then-bytes-ne-MARK_FIRST-via-else-bytes-ne-MARK_FIRST+then-bytes-ne-MARK_SECOND w ↦
          simp (← c.order_length.ensures, eq-eqb _ _ c.if-bytes-order_length.false, eq-eqb _ _ w.if-bytes-ne-MARK_FIRST.false, ne_eqb _ _ w.if-bytes-ne-MARK_SECOND.true)
    ]

pub returns-in_err-order : goal.returns-in_err-order
unfolding decode_order sent_of
returns-in_err-order c =
    ap (λ (r : Option OrderRecord). record_in r c.args.bytes.now) c.from_residual.ensures
    ∙ simp (← c.order_length.ensures, eq-eqb _ _ c.if-bytes-order_length.false, eq-eqb _ _ c.if-bytes-ne-MARK_FIRST.false, eq-eqb _ _ c.if-bytes-ne-MARK_SECOND.false) (λ t. sent_of (be4 c.args.bytes.now 3) (c.in_err-order.ensures t))

pub returns : goal.returns
unfolding decode_order sent_of
returns c =
    simp (← c.order_length.ensures, eq-eqb _ _ c.if-bytes-order_length.false, eq-eqb _ _ c.if-bytes-ne-MARK_FIRST.false, eq-eqb _ _ c.if-bytes-ne-MARK_SECOND.false) (λ t. sent_of (c.read4.ensures t) (c.in_ok-order.ensures t))
