-- The run of calls.
pub mod Following
