pub mod Asked
pub mod CheckSteps
pub mod Front
pub mod GetAnswers
pub mod SamePaths
pub mod SameSteps
pub mod Steps
