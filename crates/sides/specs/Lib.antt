pub mod Labels
pub mod Lists
