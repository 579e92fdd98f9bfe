-- A search: what is left to look at decides.
use Rattle.laws.specs.Views.{any_empty, any_here, any_skip}
use Rattle.rules.specs.Picture.{holds, same_pair}
use Rattle.wire_pairs.proofs.Arrays.{none_past}
use Rattle.wire_pairs.specs.View.{pair_in, pair_of}
use mathlib.Core.Path.{◌∙◌, sym}
use Rattle.wire_pairs.proofs.Pairs.holds_from.Goals as goal

pub returns-then-eq : goal.returns-then-eq
unfolding holds same_pair pair_in pair_of
returns-then-eq c = sym (sym c.loop-i.invariant ∙ any_here (same_pair _) c.at.ensures (sym c.eq.ensures ∙ c.if-eq.true))

pub loop-i-preserved : goal.loop-i-preserved
unfolding holds same_pair pair_in pair_of
loop-i-preserved c = any_skip (same_pair _) c.at.ensures (sym c.eq.ensures ∙ c.if-eq.false) ∙ c.loop-i.invariant

pub returns : goal.returns
unfolding holds
returns c =
    sym (sym c.loop-i.invariant ∙ any_empty (same_pair _) (none_past _ c.len-i-end.ensures.1 c.loop-i-test.false))
