pub mod Room
pub mod Join
pub mod Merge
pub mod HealWrite
pub mod HealImage
pub mod Loop
pub mod Steps
pub mod Rules
