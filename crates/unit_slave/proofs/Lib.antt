-- Laws that several functions' proofs use.
pub mod Making
pub mod Hearing
pub mod Learning
