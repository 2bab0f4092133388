pub mod Headers
pub mod Put
pub mod Words
