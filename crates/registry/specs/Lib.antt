pub mod View
pub mod Outcome
pub mod Calls
