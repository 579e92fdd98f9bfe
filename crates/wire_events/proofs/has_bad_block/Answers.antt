-- A search: what is left to look at decides.
use Rattle.laws.specs.Views.{any_empty, any_here, any_skip}
use Rattle.wire_pairs.proofs.Arrays.{none_past}
use Rattle.rules.specs.Event.{bad_block}
use mathlib.Core.Path.{◌∙◌, sym}
use Rattle.wire_events.proofs.has_bad_block.Goals as goal

pub returns-then-is_bad_block : goal.returns-then-is_bad_block
returns-then-is_bad_block c = sym (sym c.loop-i.invariant ∙ any_here bad_block c.at.ensures (sym c.is_bad_block.ensures ∙ c.if-is_bad_block.true))

pub loop-i-preserved : goal.loop-i-preserved
loop-i-preserved c = any_skip bad_block c.at.ensures (sym c.is_bad_block.ensures ∙ c.if-is_bad_block.false) ∙ c.loop-i.invariant

pub returns : goal.returns
returns c =
    sym (sym c.loop-i.invariant ∙ any_empty bad_block (none_past _ c.len-i-end.ensures.1 c.loop-i-test.false))
