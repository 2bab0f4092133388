pub mod Formats
pub mod Meant
pub mod Pairs
pub mod Ruled
