-- Laws that several functions' proofs use.
pub mod Bytes
pub mod Tellings
pub mod Writing
