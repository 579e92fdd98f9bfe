-- Laws that the functions' proofs use.
pub mod Holding
pub mod Judging
