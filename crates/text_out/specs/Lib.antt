pub mod Texts
pub mod Puts
pub mod Putting
pub mod Spelling
