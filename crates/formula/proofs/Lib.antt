pub mod Keeping
pub mod Decoding
pub mod Files
pub mod Formats
pub mod Meant
