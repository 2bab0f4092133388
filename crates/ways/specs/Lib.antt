pub mod Chains
pub mod Leaves
pub mod Stacks
pub mod Trees
