-- Laws that the functions' proofs use, and values worked out.
pub mod Widths
pub mod Filling
pub mod ReadBack
pub mod Examples
