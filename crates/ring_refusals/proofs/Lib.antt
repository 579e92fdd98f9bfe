-- Laws of the numbers.
pub mod Firsts
pub mod Table
