-- Laws that the functions' proofs use, and arguments worked out.
pub mod Taking
pub mod Words
pub mod Groups
pub mod Examples
