pub mod Files
pub mod Formats
pub mod Records
pub mod Rules
pub mod Laws
