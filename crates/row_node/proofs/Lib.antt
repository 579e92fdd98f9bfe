-- Laws on node rows.
pub mod HeldPairs
