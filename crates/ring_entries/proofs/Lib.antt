-- Laws that several functions' proofs use.
pub mod Rows
pub mod Seats
pub mod Counting
