pub mod Passes
pub mod Answered
pub mod Reachings
pub mod WalkLaws
pub mod Plays
