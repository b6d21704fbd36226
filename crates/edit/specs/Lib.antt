pub mod Change
pub mod Known
pub mod Free
pub mod Room
pub mod Edited
