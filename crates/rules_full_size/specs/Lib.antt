pub mod FullSize
pub mod Largest
pub mod Promises
