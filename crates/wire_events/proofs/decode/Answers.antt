-- Length, mark and kind, in the code's order.
use Rattle.rules.specs.Event.{decode, decode_plain}
use Prim.Native.Nat.{ℕ}
use borrow.Author.Tests.{eq-eqb, le-leb, lt-leb, ne_eqb}
use lib.ListN.{get_or}
use mathlib.Core.Path.{◌∙◌, ap}
use Rattle.wire_events.proofs.decode.Goals as goal
use Rattle.wire_events.proofs.decode.Goals.{then-bytes-ne-MARK_FIRST-via-then-bytes-ne-MARK_FIRST, then-bytes-ne-MARK_FIRST-via-else-bytes-ne-MARK_FIRST+then-bytes-ne-MARK_SECOND}

pub returns-then-bytes-lt-HEAD : goal.returns-then-bytes-lt-HEAD
unfolding decode
returns-then-bytes-lt-HEAD c = simp (lt-leb _ _ c.if-bytes-lt-HEAD.true)

pub returns-then-bytes-ne-MARK_FIRST : goal.returns-then-bytes-ne-MARK_FIRST
unfolding decode
returns-then-bytes-ne-MARK_FIRST c =
    elim c.then-bytes-ne-MARK_FIRST.branch [
      | then-bytes-ne-MARK_FIRST-via-then-bytes-ne-MARK_FIRST w ↦ simp (le-leb _ _ c.if-bytes-lt-HEAD.false, ne_eqb _ _ w.if-bytes-ne-MARK_FIRST.true)
      | then-bytes-ne-MARK_FIRST-via-else-bytes-ne-MARK_FIRST+then-bytes-ne-MARK_SECOND w ↦
          simp (le-leb _ _ c.if-bytes-lt-HEAD.false, eq-eqb _ _ w.if-bytes-ne-MARK_FIRST.false, ne_eqb _ _ w.if-bytes-ne-MARK_SECOND.true)
    ]

pub returns-then-kind-eq-ANSWER : goal.returns-then-kind-eq-ANSWER
unfolding decode
returns-then-kind-eq-ANSWER c =
    simp (le-leb _ _ c.if-bytes-lt-HEAD.false, eq-eqb _ _ c.if-bytes-ne-MARK_FIRST.false, eq-eqb _ _ c.if-bytes-ne-MARK_SECOND.false, eq-eqb _ _ c.if-kind-eq-ANSWER.true) c.decode_answer.ensures

pub returns-then-bytes-ne-HEAD : goal.returns-then-bytes-ne-HEAD
unfolding decode
returns-then-bytes-ne-HEAD c =
    simp (le-leb _ _ c.if-bytes-lt-HEAD.false, eq-eqb _ _ c.if-bytes-ne-MARK_FIRST.false, eq-eqb _ _ c.if-bytes-ne-MARK_SECOND.false, ne_eqb _ _ c.if-kind-eq-ANSWER.false, ne_eqb _ _ c.if-bytes-ne-HEAD.true)

pub returns : goal.returns
unfolding decode
returns c =
    simp (le-leb _ _ c.if-bytes-lt-HEAD.false, eq-eqb _ _ c.if-bytes-ne-MARK_FIRST.false, eq-eqb _ _ c.if-bytes-ne-MARK_SECOND.false, ne_eqb _ _ c.if-kind-eq-ANSWER.false, eq-eqb _ _ c.if-bytes-ne-HEAD.false) (c.decode_plain.ensures ∙ ap (λ (p : ℕ). decode_plain (get_or c.args.bytes.now 2 0) p (get_or c.args.bytes.now 7 0)) c.read4.ensures)
