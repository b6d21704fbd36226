pub mod Find
pub mod Writing
pub mod Reading
pub mod Answered
pub mod Rows
pub mod Line
pub mod Steps
pub mod Input
