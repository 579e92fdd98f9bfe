-- Laws that the functions' proofs use, and records worked out.
pub mod Spacing
pub mod PairWords
pub mod Examples
