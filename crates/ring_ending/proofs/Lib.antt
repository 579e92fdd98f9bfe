-- What an ending's tests come to.
pub mod Closing
