pub mod Systems
pub mod Refusals
pub mod Questions
pub mod Walks
pub mod Reaching
pub mod Places
pub mod Trails
pub mod Texts
