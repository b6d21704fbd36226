pub mod StoreTable
pub mod Rebuild
pub mod RebuildSteps
