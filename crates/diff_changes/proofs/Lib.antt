-- Laws on what has changed.
pub mod Parts
