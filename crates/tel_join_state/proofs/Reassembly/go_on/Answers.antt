-- `go_on` is the rules' way of TelID 2 and 3.
use Rattle.std.proofs.Common.{◌≡◌, ◌∙◌, sym, ◌+◌}
use borrow.Author.Tests.{lt-leb, eq-eqb, ne_eqb}
use lib.Bits.{and_mask}
use Rattle.rules.specs.Telegram.{continues}
use Rattle.tel_join_state.specs.Answers.{joining_of}
use Rattle.tel_join_state.proofs.Joining.{drops, completes, stays_open}
use Rattle.tel_join_state.proofs.Reassembly.go_on.Goals.{then-self-eq0-via-then-self-eq0, then-self-eq0-via-else-self-eq0+then-msg_id-self, then-self-eq0-via-else-self-eq0+else-msg_id-self+then-from-self, then-self-eq0-via-else-self-eq0+else-msg_id-self+else-from-self+then-total-gt-MAX_PAYLOAD, then-last, else-last}
use Rattle.tel_join_state.proofs.Reassembly.go_on.Goals as goal

pub returns-then-self-eq0 : goal.returns-then-self-eq0
unfolding joining_of continues
returns-then-self-eq0 c =
    let a = c.args in
    drops a.buffer.now
    (elim c.then-self-eq0.branch [
      | then-self-eq0-via-then-self-eq0 w ↦ simp (eq-eqb _ _ w.if-self-eq0.true)
      | then-self-eq0-via-else-self-eq0+then-msg_id-self w ↦ simp (ne_eqb _ _ w.if-self-eq0.false, ne_eqb _ _ w.if-msg_id-self.true)
      | then-self-eq0-via-else-self-eq0+else-msg_id-self+then-from-self w ↦
          simp (ne_eqb _ _ w.if-self-eq0.false, eq-eqb _ _ w.if-msg_id-self.false, ne_eqb a.counter a.self.now.counter (λ e. w.if-from-self.true (w.from.ensures ∙ e)))
      | then-self-eq0-via-else-self-eq0+else-msg_id-self+else-from-self+then-total-gt-MAX_PAYLOAD w ↦
          simp (ne_eqb _ _ w.if-self-eq0.false, eq-eqb _ _ w.if-msg_id-self.false, eq-eqb a.counter a.self.now.counter (sym w.from.ensures ∙ w.if-from-self.false), lt-leb _ _ w.if-total-gt-MAX_PAYLOAD.true)
    ])
    c.dropped.ensures

pub returns : goal.returns
returns c =
    let a = c.args in
    let e : a.counter ≡ a.self.now.counter = sym c.from.ensures ∙ c.if-from-self.false in
    elim c.if-last.branch [
      | then-last w ↦
          completes a.self.now a.msg_id a.counter a.part.now a.buffer.now c.if-self-eq0.false c.if-msg_id-self.false e c.if-total-gt-MAX_PAYLOAD.false
          c.then_some.ensures w.self-is c.store.ensures w.if-last.true w.fresh.ensures
      | else-last w ↦
          stays_open a.self.now a.msg_id a.counter a.part.now a.buffer.now c.if-self-eq0.false c.if-msg_id-self.false e c.if-total-gt-MAX_PAYLOAD.false
          c.then_some.ensures w.self-is c.store.ensures w.if-last.false w.opened.ensures (and_mask (a.self.now.counter + 1) 8)
    ]
