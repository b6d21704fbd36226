pub mod Pieces
pub mod Requests
pub mod Steps
