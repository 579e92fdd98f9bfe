-- Laws that several functions' proofs use.
pub mod Segments
pub mod Learning
pub mod Rows
