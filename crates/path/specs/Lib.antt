pub mod Shape
pub mod Fed
pub mod Reads
