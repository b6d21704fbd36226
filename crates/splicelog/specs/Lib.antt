pub mod Words
pub mod BatchWord
