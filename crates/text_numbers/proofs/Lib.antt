-- Laws that the functions' proofs use, and what holds of the tables.
pub mod Tables
pub mod Own
