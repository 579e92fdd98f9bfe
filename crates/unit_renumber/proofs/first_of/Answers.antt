-- A search: the place so far, and how far it is from there.
use Rattle.rules.specs.Picture.{same_pair}
use Rattle.unit_renumber.proofs.Renaming.{first_here, first_none, first_on}
use Rattle.wire_pairs.specs.View.{pair_in, pair_of, pairs_of}
use lib.ListN.{drop_of_length-le}
use mathlib.Core.Path.{◌∙◌, sym}
use native.Mathlib.Omega.{arith}
use Rattle.unit_renumber.proofs.first_of.Goals as goal

pub returns-then-eq : goal.returns-then-eq
unfolding same_pair pair_in pair_of
returns-then-eq c =
    (omega (arith, c.loop-i.invariant, first_here (pair_in c.args.pair) c.at.ensures (sym c.eq.ensures ∙ c.if-eq.true)), omega (arith, c.len-i-end.ensures.0, c.loop-i-test.true))

pub loop-i-preserved : goal.loop-i-preserved
unfolding same_pair pair_in pair_of
loop-i-preserved c = omega (arith, c.loop-i.invariant, first_on (pair_in c.args.pair) c.at.ensures (sym c.eq.ensures ∙ c.if-eq.false))

pub returns : goal.returns
returns c =
    let many = c.len-i-end.ensures.1 in
    omega (arith, c.loop-i.invariant, many, c.loop-i.auto.i-end, c.loop-i-test.false, first_none (pair_in c.args.pair) (drop_of_length-le (pairs_of c.args.pairs.now) {i = c.loop-i.i} (omega (arith, many, c.loop-i-test.false))))
