-- Laws that the functions' proofs use, and a line worked out.
pub mod Ranges
pub mod Reckoning
pub mod Examples
