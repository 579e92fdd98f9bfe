-- Laws that several functions' proofs use.
pub mod Endings
pub mod Doing
pub mod Scanning
pub mod Rescanning
pub mod Telling
pub mod Places
pub mod Replying
pub mod Refusing
mod Recording
pub mod Conflicts
pub mod Stepping
pub mod Following
pub mod Ring
pub mod Sizing
