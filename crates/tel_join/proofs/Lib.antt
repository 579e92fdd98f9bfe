-- Laws that several functions' proofs use.
pub mod Legal
pub mod Taking
