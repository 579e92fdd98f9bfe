-- What is found is kept, and a refusal is not.
use Rattle.std.proofs.Common.{sym, ap, ◌∙◌}
use Rattle.rules.specs.Listing.{Lookup}
use Rattle.rules_unit.specs.Slave.{learn}
use Rattle.wire_pairs.specs.View.{pair_in}
use Rattle.unit_answers.specs.View.{known_in}
use Rattle.unit_slave.specs.View.{slave_of}
use Rattle.unit_slave.specs.Steps.{is_refusal}
use Rattle.unit_slave.proofs.Hearing.{knows}
use Rattle.unit_slave.proofs.Learning.{unlearned}
use Rattle.unit_slave.proofs.NetworkSlave.learn.Goals.{in-Ok, in-Err}
use Rattle.unit_slave.proofs.NetworkSlave.learn.Goals as goal

pub returns-clause-learned : goal.returns-clause-learned
unfolding slave_of learn known_in
returns-clause-learned g c =
    elim c.match-answer.branch [
      | in-Ok w ↦ λ l s. let e = rw w.in-Ok.is at s in rw w.result-is (
          (knows c.args.self w.remember.result _ w.remember.ensures).unit
          ∙ sym (ap (λ (k : Lookup). learn (pair_in c.args.pair) k (slave_of c.args.self)) e))
      | in-Err w ↦ λ l s. let e = rw w.in-Err.is at s in rw w.result-is (unlearned (pair_in c.args.pair) l (slave_of c.args.self) e)
    ]

pub returns-clause-refused : goal.returns-clause-refused
unfolding is_refusal
returns-clause-refused g c =
    elim c.match-answer.branch [
      | in-Ok w ↦ λ l s r. let e = rw w.in-Ok.is at s in let z = sym r ∙ ap is_refusal e in absurd cc
      | in-Err w ↦ λ l s r. w.result-is
    ]
