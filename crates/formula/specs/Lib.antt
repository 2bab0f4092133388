pub mod Cells
pub mod Files
pub mod Formats
pub mod Answers
pub mod Rules
pub mod Laws
pub mod Among
