-- Laws that several functions' proofs use.
pub mod Passing
pub mod Returning
pub mod Promises
