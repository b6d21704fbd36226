pub mod Joined
pub mod Weights
pub mod Fits
pub mod Search
pub mod HighShort
pub mod Mended
