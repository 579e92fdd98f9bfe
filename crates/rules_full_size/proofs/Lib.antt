-- What is computed at full size.
pub mod FullSize
pub mod Largest
pub mod Promises
