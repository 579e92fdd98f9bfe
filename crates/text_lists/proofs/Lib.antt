-- Laws that the functions' proofs use, and lists worked out.
pub mod PairWords
pub mod RowNames
pub mod HexRuns
pub mod Examples
