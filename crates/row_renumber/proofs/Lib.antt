-- Laws that the functions' proofs use.
pub mod Numbers
pub mod Offers
