-- Laws on rows that the proofs of the code use.
pub mod Repeats
pub mod Seats
