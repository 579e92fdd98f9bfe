-- `join` refuses 10, 13, 14 and 15 in the rules' order, and leaves the rest to `take`.
use Rattle.std.proofs.Common.{◌≡◌, refl, sym, ◌∙◌, arith}
use Rattle.std.proofs.lemmas.Result.{err_from_is_err_and}
use borrow.Author.Tests.{lt-ltb, le-ltb, lt-leb, le-leb}
use Rattle.rules.specs.Telegram.{join, tel_id_of}
use Rattle.tel_join.proofs.Legal.{legal, range}
use Rattle.tel_head.specs.Kinds.{tel_id_number}
use Rattle.tel_join_state.proofs.Joining.{along}
use Rattle.tel_join.proofs.Taking.{small, keeps, has_head, at_most, has_counter}
use Rattle.tel_join.proofs.join.Goals as goal

pub returns-then-illegal : goal.returns-then-illegal
unfolding join
returns-then-illegal c =
    let a = c.args in
    keeps a.state.now a.buffer.now refl (simp (sym c.illegal.ensures ∙ c.if-illegal.true))

pub returns-then-buffer-lt-MAX_PAYLOAD : goal.returns-then-buffer-lt-MAX_PAYLOAD
unfolding join
returns-then-buffer-lt-MAX_PAYLOAD c =
    let a = c.args in
    keeps a.state.now a.buffer.now refl (simp (legal _ c.illegal.ensures c.if-illegal.false, lt-ltb _ _ c.if-buffer-lt-MAX_PAYLOAD.true))

pub returns-then-malformed : goal.returns-then-malformed
unfolding join
returns-then-malformed c =
    let a = c.args in
    keeps a.state.now a.buffer.now refl (simp (legal _ c.illegal.ensures c.if-illegal.false, le-ltb _ _ c.if-buffer-lt-MAX_PAYLOAD.false, sym c.malformed.ensures ∙ c.if-malformed.true))

pub returns-in_err-tel_id : goal.returns-in_err-tel_id
unfolding join
returns-in_err-tel_id c =
    let a = c.args in
    let p = err_from_is_err_and c.from_residual.result c.from_residual.ensures.1 in
    let h = c.in_err-tel_id.ensures in
    rw (p.1, p.2, h.1)
    (keeps a.state.now a.buffer.now refl
    (simp (legal _ c.illegal.ensures c.if-illegal.false, le-ltb _ _ c.if-buffer-lt-MAX_PAYLOAD.false, sym c.malformed.ensures ∙ c.if-malformed.false, sym c.tel_id.ensures, le-leb _ _ h.0)))

pub take-requires : goal.take-requires
take-requires c =
    let a = c.args in
    let m = sym c.malformed.ensures ∙ c.if-malformed.false in
    let z = range _ c.illegal.ensures c.if-illegal.false in
    let i : tel_id_number c.in_ok-tel_id.tel_id ≡ tel_id_of a.telegram.now = c.in_ok-tel_id.ensures ∙ c.tel_id.ensures in
    let s = small c.in_ok-tel_id.tel_id in
    (c.if-buffer-lt-MAX_PAYLOAD.false, has_head a.l a.telegram.now m, omega (arith, at_most a.l a.telegram.now m), λ f. has_counter a.l a.telegram.now m (omega arith) (λ e. omega arith))

pub returns : goal.returns
unfolding join
returns c =
    along (simp (legal _ c.illegal.ensures c.if-illegal.false, le-ltb _ _ c.if-buffer-lt-MAX_PAYLOAD.false, sym c.malformed.ensures ∙ c.if-malformed.false, sym c.tel_id.ensures, sym c.in_ok-tel_id.ensures, lt-leb 4 _ (small c.in_ok-tel_id.tel_id))) c.take.ensures
