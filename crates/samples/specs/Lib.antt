pub mod Verdict
pub mod Data
pub mod Judged
pub mod Kept
pub mod Fits
