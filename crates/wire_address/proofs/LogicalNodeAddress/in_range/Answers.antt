-- The two limits.
use Rattle.rules.specs.Picture.{in_range}
use borrow.Author.Tests.{le-leb, lt-leb}
use Rattle.wire_address.proofs.LogicalNodeAddress.in_range.Goals as goal

pub returns-then-self-ge-NODE_ADDRESS_MIN : goal.returns-then-self-ge-NODE_ADDRESS_MIN
unfolding in_range
returns-then-self-ge-NODE_ADDRESS_MIN c = simp (le-leb _ _ c.if-self-ge-NODE_ADDRESS_MIN.true)

pub returns-else-self-ge-NODE_ADDRESS_MIN : goal.returns-else-self-ge-NODE_ADDRESS_MIN
unfolding in_range
returns-else-self-ge-NODE_ADDRESS_MIN c = simp (lt-leb _ _ c.if-self-ge-NODE_ADDRESS_MIN.false)
