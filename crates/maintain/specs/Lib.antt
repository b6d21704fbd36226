pub mod Upkept
pub mod Interior
pub mod Steps
