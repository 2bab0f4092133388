pub mod Data
pub mod Kinds
pub mod Refusals
pub mod Summaries
pub mod Verbs
