pub mod Callers
pub mod Asked
pub mod Acted
pub mod Steps
