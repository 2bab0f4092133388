pub mod Faults
pub mod Fields
pub mod Layouts
pub mod Limits
pub mod Sections
