pub mod Beside
pub mod Hearing
