pub mod Tests
pub mod Verdicts
