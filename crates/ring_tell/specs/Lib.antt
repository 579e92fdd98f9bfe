pub mod View
pub mod Told
