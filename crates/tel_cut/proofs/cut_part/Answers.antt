-- `cut_part` writes one of several telegrams, or refuses 12 or 13.
use Rattle.std.proofs.Common.{◌≡◌, ℕ, ◌+◌, ◌-◌, ◌*◌, min, length, take, drop, ap, arith}
use Rattle.rules.proofs.RoundTrip.{size_range}
use Rattle.tel_cut.proofs.Cutting.{part_none, part_many, part_12, part_13, part_inside, part_cuts, refused}
use Rattle.tel_cut.proofs.cut_part.Goals.{then-number-eq0-via-then-number-eq0, then-number-eq0-via-else-number-eq0+then-n-number}
use Rattle.tel_cut.proofs.cut_part.Goals as goal

pub returns-then-number-eq0 : goal.returns-then-number-eq0
returns-then-number-eq0 c =
    let a = c.args in
    let p = c.requires in
    refused a.buffer.now
    (elim c.then-number-eq0.branch [
      | then-number-eq0-via-then-number-eq0 w ↦ part_none a.l a.msg_id a.payload.now p.0 p.1 p.2 a.number _ w.if-number-eq0.true
      | then-number-eq0-via-else-number-eq0+then-n-number w ↦ part_many a.l a.msg_id a.payload.now p.0 p.1 p.2 a.number _ w.if-n-number.true
    ])

pub overflow_sub-most : goal.overflow_sub-most
overflow_sub-most c =
    omega (arith, size_range c.args.l c.requires.0)

pub returns-then-n-from : goal.returns-then-n-from
returns-then-n-from c =
    let a = c.args in
    let p = c.requires in
    refused a.buffer.now (part_12 a.l a.msg_id a.payload.now p.0 p.1 p.2 a.number _ c.if-number-eq0.false c.if-n-from.true)

pub returns-then-buffer-size : goal.returns-then-buffer-size
returns-then-buffer-size c =
    let a = c.args in
    let p = c.requires in
    let s : c.min-size.result ≡ min (a.l - 1) (length a.payload.now - (a.number - 1) * (a.l - 1)) = omega arith in
    refused a.buffer.now (part_13 a.l a.msg_id a.payload.now p.0 p.1 p.2 a.number _ c.if-number-eq0.false c.min-size.result c.if-n-from.false s c.if-buffer-size.true)

pub write_part-requires : goal.write_part-requires
write_part-requires c =
    let a = c.args in
    let s : c.min-size.result ≡ min (a.l - 1) (length a.payload.now - (a.number - 1) * (a.l - 1)) = omega arith in
    part_inside a.l a.payload.now _ c.min-size.result _ c.requires.0 s c.if-buffer-size.false

pub returns : goal.returns
returns c =
    let a = c.args in
    let p = c.requires in
    let n = c.min-size.result in
    let from = (a.number - 1) * (a.l - 1) in
    let e : from + n - from ≡ n = omega arith in
    let s : n ≡ min (a.l - 1) (length a.payload.now - from) = omega arith in
    part_cuts a.l a.msg_id a.payload.now p.0 p.1 p.2 a.number _ c.if-number-eq0.false n c.if-n-from.false s a.buffer.now _ c.if-buffer-size.false c.part_id-tel_id.ensures c.low-counter.ensures
    (ap (λ (z : ℕ). take z (drop from a.payload.now)) e) c.write_part.ensures
