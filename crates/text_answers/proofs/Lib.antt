-- Laws that the functions' proofs use, and values worked out.
pub mod Parts
pub mod Examples
