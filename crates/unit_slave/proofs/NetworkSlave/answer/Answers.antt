-- At most 24 pairs, which have their room.
use Rattle.rules.specs.House.{max_pairs}
use Rattle.rules_unit.specs.Slave.{answer_of}
use Rattle.unit_slave.proofs.Hearing.{answer_fits}
use Rattle.unit_slave.specs.View.{slave_of}
use Rattle.wire_pairs.proofs.Arrays.{pairs_length}
use Rattle.wire_pairs.specs.View.{pairs_of}
use native.Mathlib.Omega.{arith}
use borrow.Author.Rules.{rules}
use Rattle.unit_slave.proofs.NetworkSlave.answer.Goals as goal

pub write_answer-requires : goal.write_answer-requires
unfolding answer_of slave_of pairs_of
write_answer-requires c =
    let u = c.args.self in
    let p = u.pairs in
    omega (arith, answer_fits u.pass (slave_of u) (omega (arith, pairs_length max_pairs p.blocks p.numbers (search rules) (search rules) p.count)), c.requires)
