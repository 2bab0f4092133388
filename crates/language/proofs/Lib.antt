pub mod Largest
pub mod Rows
pub mod Runs
