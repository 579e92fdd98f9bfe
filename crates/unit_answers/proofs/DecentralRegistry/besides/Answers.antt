-- At every turn the answers kept so far and those that stay of the rest are all that stay.
use Rattle.rules.specs.Event.{read_pairs}
use Rattle.unit_answers.proofs.Keeping.{besides_end, besides_on}
use Rattle.unit_answers.specs.View.{answers_of, known_in}
use lib.ListN.{drop_of_length-le}
use mathlib.Core.Bool.{true, false}
use mathlib.Core.List.{append-nil}
use mathlib.Core.Path.{◌∙◌, sym}
use native.Mathlib.Omega.{arith}
use Rattle.unit_answers.proofs.DecentralRegistry.besides.Goals as goal
use Rattle.unit_answers.proofs.DecentralRegistry.besides.Goals.{then-not-names, else-not-names}

pub loop-i-preserved : goal.loop-i-preserved
unfolding known_in
loop-i-preserved c =
    let ps = read_pairs c.args.named.now in
    elim c.if-not-names.branch [
      | then-not-names w ↦ rw w.left-is (record {
        few = omega arith;
        found = besides_on _ _ ps {g = false} c.at-known.ensures (sym w.if-not-names.true ∙ c.names.ensures) w.push.ensures.0 c.loop-i.invariant.found;
      })
      | else-not-names w ↦ rw w.left-is (record {
        few = omega arith;
        found = besides_on _ _ ps {g = true} c.at-known.ensures (sym w.if-not-names.false ∙ c.names.ensures) (sym (append-nil _)) c.loop-i.invariant.found;
      })
    ]

pub returns : goal.returns
returns c =
    let w = c.loop-i.invariant in
    (besides_end _ (read_pairs c.args.named.now) (drop_of_length-le (answers_of c.args.self.now) (omega (arith, c.len-i-end.ensures.1, c.loop-i-test.false))) w.found, omega (arith, w.few, c.loop-i.auto.i-end, c.len-i-end.ensures.0))
