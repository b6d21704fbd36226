pub mod InNode
pub mod Grown
pub mod Append
pub mod NodeZero
pub mod SetLive
pub mod Raise
pub mod RootMessage
