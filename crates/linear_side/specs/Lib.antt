pub mod Meanings
pub mod Vectors
