pub mod Accept
pub mod File
pub mod Flat
pub mod Made
pub mod Nodes
pub mod Trees
pub mod WellFormed
