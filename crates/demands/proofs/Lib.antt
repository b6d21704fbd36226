pub mod Brought
pub mod Touches
pub mod Kept
