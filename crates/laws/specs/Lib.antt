pub mod Lists
pub mod Bools
pub mod Alls
pub mod Sums
pub mod Buffers
pub mod Bits
pub mod Views
pub mod Runs
