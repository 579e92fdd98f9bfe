-- `tel_len` is the low half of byte 4 and byte 5.
use native.Mathlib.Omega.{arith}
use lib.Bits.{and_mask}
use Rattle.rules.specs.Telegram.{tel_len_of}
use Rattle.tel_head.proofs.tel_len.Goals as goal

pub returns : goal.returns
unfolding tel_len_of
returns c =
    let m = and_mask c.octet.result 4 in (omega arith, omega (arith, c.octet-2.type_inv))
