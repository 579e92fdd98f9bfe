-- `write_part` writes the telegram that its head, its counter byte and its part of the payload make.
use Rattle.tel_cut.proofs.Cutting.{stored_part}
use Rattle.tel_cut.proofs.write_part.Goals as goal

pub returns : goal.returns
returns c =
    let a = c.args in
    stored_part a.msg_id a.counter a.part.now a.buffer.now _ _ c.number.ensures.0 c.write_head.ensures c.store_words.ensures
