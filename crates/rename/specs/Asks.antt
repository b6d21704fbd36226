pub mod Judge
pub mod Shorter
pub mod Walk
pub mod Below
