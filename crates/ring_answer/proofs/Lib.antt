-- Laws that several functions' proofs use.
pub mod Hearing
pub mod Walking
