pub mod Kept
pub mod Located
pub mod Tested
pub mod Walk
