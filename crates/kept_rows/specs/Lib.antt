pub mod Rows
pub mod Keeping
pub mod Starting
pub mod Resting
