pub mod Back
pub mod Promises
