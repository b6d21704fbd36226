pub mod Insertion
pub mod Ranks
pub mod Merge
pub mod Moves
pub mod Slots
pub mod InsertSteps
pub mod ReplaceSteps
pub mod MergeSteps
