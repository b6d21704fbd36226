pub mod Moves
pub mod Callers
pub mod Listed
pub mod ListedLaws
