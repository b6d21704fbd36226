pub mod Served
pub mod Requests
pub mod Steps
pub mod Turns
