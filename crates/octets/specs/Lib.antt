pub mod Order
pub mod Compare
pub mod Ordering
pub mod Put
pub mod Cap
pub mod Beginnings
pub mod Library
