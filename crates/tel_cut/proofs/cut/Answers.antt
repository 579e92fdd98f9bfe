-- `cut` refuses 10 and 11, and leaves the rest to the two kinds of message.
use Rattle.std.proofs.lemmas.Result.{err_from_is_err_and}
use Rattle.tel_cut.proofs.Cutting.{forbidden}
use Rattle.tel_cut.proofs.cut.Goals as goal

pub returns-in_err-allowed : goal.returns-in_err-allowed
returns-in_err-allowed c =
    let a = c.args in
    let p = err_from_is_err_and c.from_residual.result c.from_residual.ensures.1 in
    rw (p.1, p.2) (forbidden a.l a.msg_id a.payload.now a.buffer.now a.number _ _ c.in_err-allowed.ensures)
