pub mod Joined
pub mod Tests
pub mod Walk
pub mod Visited
pub mod Present
pub mod Candidates
pub mod InHand
pub mod Sought
