pub mod Checked
pub mod Chunks
pub mod Composed
