pub mod Faults
pub mod Fitting
pub mod InWords
pub mod Scopes
pub mod Uses
