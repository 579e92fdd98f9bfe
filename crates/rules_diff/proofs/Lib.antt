-- The theorems over the rules of before and after.
pub mod Rows
pub mod Lines
pub mod Edges
pub mod Promises
