pub mod Moves
pub mod Crashes
