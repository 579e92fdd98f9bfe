-- Laws that the functions' proofs use, and what follows from the contracts.
pub mod Listed
pub mod Promises
