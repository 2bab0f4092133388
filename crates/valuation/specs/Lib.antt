pub mod Doings
pub mod Transitions
pub mod Valuations
