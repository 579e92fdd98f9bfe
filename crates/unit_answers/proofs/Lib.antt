-- Laws that several functions' proofs use.
pub mod Arrays
pub mod Keeping
