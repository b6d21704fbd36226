pub mod Spare
pub mod SpareSteps
