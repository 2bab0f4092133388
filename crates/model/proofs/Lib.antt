pub mod Bytes
pub mod Grown
pub mod Handed
pub mod Judged
pub mod Made
pub mod Numbered
pub mod Written
