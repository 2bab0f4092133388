pub mod Calls
pub mod Names
pub mod Rules
pub mod Shapes
pub mod Sound
pub mod Tallies
pub mod Ways
