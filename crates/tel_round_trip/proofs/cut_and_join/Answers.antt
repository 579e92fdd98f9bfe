-- The message comes back: at every turn the telegrams that are left, joined from here on, give the whole message.
use Rattle.std.proofs.Common.{◌≡◌, ℕ, ◌-◌, length, Option, Ok, refl, sym, ap, ◌∙◌, subst, arith}
use Rattle.std.proofs.lemmas.Result.{err_from_is_err_and}
use borrow.Author.Tests.{lt-ltb, le-ltb}
use Rattle.tel_join_state.specs.declared.Message.{Message}
use Rattle.tel_join_state.specs.Answers.{join_answer, joining_of}
use Rattle.tel_round_trip.specs.Back.{back}
use Rattle.tel_cut.proofs.Cutting.{at_least_one}
use Rattle.tel_round_trip.proofs.Returning.{counted, uncounted_back, some, Owed, owed_start, owed_on, owed_open, owed_last}
use Rattle.tel_round_trip.proofs.cut_and_join.Goals as goal

pub returns-in_err-count : goal.returns-in_err-count
returns-in_err-count c =
    let a = c.args in
    let p = err_from_is_err_and c.from_residual.result c.from_residual.ensures.1 in
    rw (p.1, p.2) (uncounted_back a.l a.payload.now a.msg_id a.buffer.now c.in_err-count.ensures)

pub returns-then-buffer-lt-MAX_PAYLOAD : goal.returns-then-buffer-lt-MAX_PAYLOAD
unfolding back
returns-then-buffer-lt-MAX_PAYLOAD c =
    let k = counted c.args.l c.args.payload.now c.in_ok-count.ensures in
    simp (k.0, le-ltb _ _ k.1, lt-ltb _ _ c.if-buffer-lt-MAX_PAYLOAD.true) (refl, refl)

pub loop-number-init : goal.loop-number-init
loop-number-init c =
    let a = c.args in
    let k = counted a.l a.payload.now c.in_ok-count.ensures in
    let o = at_least_one a.l (length a.payload.now) k.0 in
    let h = owed_start a.l a.msg_id a.payload.now a.buffer.now (joining_of c.fresh-state.result) k.0 (omega arith) k.1 c.if-buffer-lt-MAX_PAYLOAD.false o in
    (refl, subst (λ (n : ℕ). Owed a.l a.msg_id a.payload.now a.buffer.now 1 (n - 1) (joining_of c.fresh-state.result) a.buffer.now) (sym k.2) h)

pub pass_on-requires : goal.pass_on-requires
pass_on-requires c =
    let k = counted c.args.l c.args.payload.now c.in_ok-count.ensures in
    (k.0, k.1, omega arith, omega (arith, k.2))

pub returns-in_err-pass_on : goal.returns-in_err-pass_on
returns-in_err-pass_on c =
    let a = c.args in
    let w = c.loop-number in
    let o = owed_open a.l a.msg_id a.payload.now a.buffer.now c.in_ok-count.count w.number (joining_of w.state) w.buffer w.invariant.1 c.in_err-pass_on.ensures (omega arith) in
    absurd cc

pub loop-number-preserved : goal.loop-number-preserved
loop-number-preserved c =
    let a = c.args in
    let w = c.loop-number in (
      c.pass_on.auto.buffer ∙ w.invariant.0,
      owed_on a.l a.msg_id a.payload.now a.buffer.now c.in_ok-count.count w.number (joining_of w.state) w.buffer w.invariant.1 c.pass_on.ensures (omega arith),
    )

pub pass_on-requires-2 : goal.pass_on-requires-2
pass_on-requires-2 c =
    let a = c.args in
    let k = counted a.l a.payload.now c.in_ok-count.ensures in
    let o = at_least_one a.l (length a.payload.now) k.0 in
    (k.0, k.1, omega (arith, k.2), omega (arith, k.2))

pub returns-in_err-last : goal.returns-in_err-last
returns-in_err-last c =
    let a = c.args in
    let w = c.loop-number in
    let k = counted a.l a.payload.now c.in_ok-count.ensures in
    let q : w.number ≡ c.in_ok-count.count = omega (arith, k.2, at_least_one a.l (length a.payload.now) k.0) in
    let r = owed_last a.l a.msg_id a.payload.now a.buffer.now c.in_ok-count.count w.number (joining_of w.state) w.buffer q w.invariant.1 c.in_err-last.ensures in
    let e = r.0 in
    absurd cc

pub unwrap-requires : goal.unwrap-requires
unwrap-requires c =
    let a = c.args in
    let w = c.loop-number in
    let k = counted a.l a.payload.now c.in_ok-count.ensures in
    let q : w.number ≡ c.in_ok-count.count = omega (arith, k.2, at_least_one a.l (length a.payload.now) k.0) in
    let r = owed_last a.l a.msg_id a.payload.now a.buffer.now c.in_ok-count.count w.number (joining_of w.state) w.buffer q w.invariant.1 c.in_ok-last.ensures in
    some c.in_ok-last.last r.0

pub returns : goal.returns
unfolding back
returns c =
    let a = c.args in
    let w = c.loop-number in
    let k = counted a.l a.payload.now c.in_ok-count.ensures in
    let q : w.number ≡ c.in_ok-count.count = omega (arith, k.2, at_least_one a.l (length a.payload.now) k.0) in
    let r = owed_last a.l a.msg_id a.payload.now a.buffer.now c.in_ok-count.count w.number (joining_of w.state) w.buffer q w.invariant.1 c.in_ok-last.ensures in
    let e = sym (ap (λ (o : Option Message). join_answer (Ok o)) c.unwrap.ensures) ∙ r.0 in
    simp (k.0, le-ltb _ _ k.1, le-ltb _ _ c.if-buffer-lt-MAX_PAYLOAD.false) (e, r.1)
