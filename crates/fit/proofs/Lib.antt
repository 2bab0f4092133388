pub mod Any
pub mod Words
pub mod Handing
pub mod Used
pub mod Scoped
pub mod Fitted
