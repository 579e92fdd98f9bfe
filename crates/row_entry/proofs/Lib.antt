-- Laws that several functions' proofs use.
pub mod Marks
pub mod Arrays
pub mod Entries
