pub mod Bounds
pub mod Chains
mod Stacks
mod Turns
mod Yielded
