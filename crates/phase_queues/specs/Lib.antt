pub mod Left
pub mod Opened
pub mod Closed
pub mod Tried
