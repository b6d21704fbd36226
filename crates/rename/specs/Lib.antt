pub mod Asks
pub mod Prepare
pub mod Going
pub mod Apply
