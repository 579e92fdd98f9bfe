pub mod Allowed
pub mod Kinds
