pub mod Relative
pub mod Seek
pub mod SeekHere
pub mod SoundHere
pub mod Visit
pub mod Far
