pub mod Headed
pub mod Runs
