pub mod Failovers
pub mod Renamings
pub mod Renamed
