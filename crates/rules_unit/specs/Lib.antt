pub mod Reading
pub mod Slave
pub mod Bench
pub mod Claims
pub mod Table
pub mod Edges
pub mod Promises
