pub mod Prepared
pub mod Steps
pub mod Unmoved
pub mod Moved
