-- A search, two bytes at a time: what is left to look at decides.
use mathlib.Core.Path.{◌∙◌, sym}
use native.Mathlib.Omega.{arith}
use borrow.Author.Rules.{rules}
use Rattle.laws.specs.Views.{any_empty, any_here, any_skip}
use Rattle.rules.specs.Picture.{holds, same_pair}
use Rattle.wire_pairs.specs.View.{pair_in, pair_of}
use Rattle.unit_answers.proofs.Keeping.{read_on, read_few}
use Rattle.unit_answers.proofs.names.Goals as goal

pub returns-then-eq : goal.returns-then-eq
unfolding holds same_pair pair_in pair_of
returns-then-eq c =
    let z = c.in-Some.ensures.steps.1 in
    let here = read_on c.in-Some.bytes.now _ z.0 (z.1 ∙ c.loop-bytes.invariant.2) in
    sym (sym c.loop-bytes.invariant.3 ∙ any_here (same_pair _) here (sym c.eq.ensures ∙ c.if-eq.true))

pub loop-bytes-preserved : goal.loop-bytes-preserved
unfolding holds same_pair pair_in pair_of
loop-bytes-preserved c =
    let w = c.loop-bytes.invariant in
    let z = c.in-Some.ensures.steps.1 in
    let here = read_on c.in-Some.bytes.now _ z.0 (z.1 ∙ w.2) in
    (search rules, search rules, c.in-Some.ensures.steps.0 ∙ w.2, any_skip (same_pair _) here (sym c.eq.ensures ∙ c.if-eq.false) ∙ w.3)

pub returns : goal.returns
unfolding holds
returns c =
    let few = c.in-None.ensures.steps.1.0 in
    sym (sym c.loop-bytes.invariant.3 ∙ any_empty (same_pair _) (read_few c.loop-bytes.bytes-iterator.rest.now (omega (arith, few, c.loop-bytes.invariant.2))))
