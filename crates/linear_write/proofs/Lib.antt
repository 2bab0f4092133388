pub mod Laying
pub mod Putting
