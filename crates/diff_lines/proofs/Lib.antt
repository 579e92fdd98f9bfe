-- Laws on the lines of all positions.
pub mod Positions
pub mod Outcomes
pub mod Gathered
