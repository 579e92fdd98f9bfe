pub mod Differences
pub mod Claims
pub mod Table
pub mod Edges
pub mod Promises
