pub mod Going
pub mod GoingSteps
