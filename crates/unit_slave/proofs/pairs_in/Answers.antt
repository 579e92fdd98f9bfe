-- Half a pair, too many pairs, and those of a unit.
use mathlib.Core.Path.{refl, ◌∙◌}
use native.Mathlib.Omega.{arith}
use Rattle.unit_slave.proofs.Making.{not_whole, too_many, whole, all_read}
use Rattle.unit_slave.proofs.pairs_in.Goals.{then-bytes-ne0-via-then-bytes-ne0, then-bytes-ne0-via-else-bytes-ne0+then-bytes-gt-MAX_PAIRS}
use Rattle.unit_slave.proofs.pairs_in.Goals as goal

pub returns-then-bytes-ne0 : goal.returns-then-bytes-ne0
returns-then-bytes-ne0 c =
    elim c.then-bytes-ne0.branch [
      | then-bytes-ne0-via-then-bytes-ne0 w ↦ (not_whole c.args.bytes.now w.if-bytes-ne0.true, refl)
      | then-bytes-ne0-via-else-bytes-ne0+then-bytes-gt-MAX_PAIRS w ↦ (too_many c.args.bytes.now w.if-bytes-gt-MAX_PAIRS.true, refl)
    ]

pub returns : goal.returns
returns c =
    let b = c.args.bytes.now in
    let few = c.if-bytes-gt-MAX_PAIRS.false in
    (whole b c.if-bytes-ne0.false few, c.read_pairs.ensures.0 ∙ all_read b few, omega (arith, c.read_pairs.ensures.1))
