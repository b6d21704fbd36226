pub mod Notes
pub mod Paired
pub mod Apart
pub mod Steps
