pub mod Emitting
pub mod Entries
pub mod Nodes
pub mod Raise
