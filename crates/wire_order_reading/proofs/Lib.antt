-- Laws that several functions' proofs use.
pub mod Lengths
