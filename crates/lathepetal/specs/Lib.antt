pub mod Numbers
pub mod Units
pub mod Rows
