pub mod Form
pub mod Rows
pub mod Pages
pub mod Build
