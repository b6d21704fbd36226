pub mod Laws
pub mod WriteSteps
pub mod Waiting
pub mod Callers
