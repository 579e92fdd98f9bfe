-- The theorems over the rules of the unit.
pub mod Orders
pub mod Memory
pub mod Hearing
pub mod Telling
pub mod Coherence
pub mod Units
pub mod Forgetting
pub mod Edges
pub mod Promises
