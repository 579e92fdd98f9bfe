-- `cut_single` writes the only telegram, or refuses 12 or 13.
use mathlib.Core.Path.{sym}
use native.Mathlib.Omega.{arith}
use Rattle.rules.proofs.RoundTrip.{size_range, telegram_length}
use Rattle.tel_cut.proofs.Cutting.{single_12, single_13, single_cut, refused, written, stored_single}
use Rattle.tel_cut.proofs.cut_single.Goals as goal

pub returns-then-number-ne1 : goal.returns-then-number-ne1
returns-then-number-ne1 c =
    let a = c.args in
    refused a.buffer.now (single_12 a.l a.msg_id a.payload.now c.requires.0 c.requires.1 a.number _ c.if-number-ne1.true)

pub returns-then-buffer-n : goal.returns-then-buffer-n
returns-then-buffer-n c =
    let a = c.args in
    refused a.buffer.now (single_13 a.l a.msg_id a.payload.now c.requires.0 c.requires.1 a.number _ c.if-number-ne1.false c.if-buffer-n.true)

pub overflow_cast-n : goal.overflow_cast-n
overflow_cast-n c =
    omega (arith, size_range c.args.l c.requires.0)

pub write_head-requires : goal.write_head-requires
write_head-requires c =
    omega (arith, size_range c.args.l c.requires.0)

pub returns : goal.returns
returns c =
    let a = c.args in
    let p = a.payload.now in
    written a.buffer.now _ _ _ (single_cut a.l a.msg_id p c.requires.0 c.requires.1 a.number _ c.if-number-ne1.false c.if-buffer-n.false)
    (sym (telegram_length a.msg_id 0 p))
    (stored_single a.msg_id p a.buffer.now _ _ c.number.ensures.0 c.write_head.ensures c.store.ensures)
