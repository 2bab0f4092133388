pub mod Blanks
pub mod Equations
pub mod Faults
pub mod Laws
pub mod Layout
pub mod Places
pub mod Reading
pub mod Shown
