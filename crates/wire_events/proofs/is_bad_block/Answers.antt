-- The two limits.
use Rattle.wire_pairs.specs.View.{pair_in, pair_of}
use Rattle.rules.specs.Event.{bad_block}
use borrow.Author.Tests.{le-ltb, lt-ltb}
use Rattle.wire_events.proofs.is_bad_block.Goals as goal

pub returns-then-pair-lt-BLOCK_MIN : goal.returns-then-pair-lt-BLOCK_MIN
unfolding bad_block pair_in pair_of
returns-then-pair-lt-BLOCK_MIN c = simp (lt-ltb _ _ c.if-pair-lt-BLOCK_MIN.true)

pub returns-else-pair-lt-BLOCK_MIN : goal.returns-else-pair-lt-BLOCK_MIN
unfolding bad_block pair_in pair_of
returns-else-pair-lt-BLOCK_MIN c = simp (le-ltb _ _ c.if-pair-lt-BLOCK_MIN.false)
