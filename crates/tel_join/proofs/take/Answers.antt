-- `take` goes by the TelID as the rules do.
use Rattle.std.proofs.Common.{ℕ, List, refl, ap, true, false}
use Rattle.rules.specs.Telegram.{join_to, begins, continues}
use Rattle.tel_head.specs.Kinds.{tel_id_number}
use Rattle.tel_join_state.specs.Answers.{joining_of}
use Rattle.tel_join.proofs.Taking.{takes_single, takes_part}
use Rattle.tel_join.proofs.take.Goals as goal

pub returns-in-Single : goal.returns-in-Single
returns-in-Single c =
    let a = c.args in
    takes_single _ a.state.now a.telegram.now a.buffer.now c.msg_id-msg_id.ensures (ap tel_id_number c.in-Single.is) c.fresh.ensures c.store.ensures

pub returns-in-First : goal.returns-in-First
unfolding join_to
returns-in-First c =
    let a = c.args in
    takes_part _ a.state.now a.telegram.now a.buffer.now c.msg_id-msg_id.ensures (λ (m k : ℕ) (p : List ℕ). begins m k p a.buffer.now) (ap tel_id_number c.in-First.is) refl c.begin.ensures

pub returns-in-Next : goal.returns-in-Next
unfolding join_to
returns-in-Next c =
    let a = c.args in
    takes_part _ a.state.now a.telegram.now a.buffer.now c.msg_id-msg_id.ensures (λ (m k : ℕ) (p : List ℕ). continues false (joining_of a.state.now) m k p a.buffer.now) (ap tel_id_number c.in-Next.is) refl c.go_on.ensures

pub returns-in-Final : goal.returns-in-Final
unfolding join_to
returns-in-Final c =
    let a = c.args in
    takes_part _ a.state.now a.telegram.now a.buffer.now c.msg_id-msg_id.ensures (λ (m k : ℕ) (p : List ℕ). continues true (joining_of a.state.now) m k p a.buffer.now) (ap tel_id_number c.in-Final.is) refl c.go_on-in-Final.ensures
