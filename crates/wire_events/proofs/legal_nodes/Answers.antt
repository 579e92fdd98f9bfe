-- The two limits.
use Rattle.rules.specs.Event.{good_nodes}
use borrow.Author.Tests.{le-leb, lt-leb}
use Rattle.wire_events.proofs.legal_nodes.Goals as goal

pub returns-then-n-ge1 : goal.returns-then-n-ge1
unfolding good_nodes
returns-then-n-ge1 c = simp (le-leb _ _ c.if-n-ge1.true)

pub returns-else-n-ge1 : goal.returns-else-n-ge1
unfolding good_nodes
returns-else-n-ge1 c = simp (lt-leb _ _ c.if-n-ge1.false)
