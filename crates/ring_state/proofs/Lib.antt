-- Laws of the marks.
pub mod States
