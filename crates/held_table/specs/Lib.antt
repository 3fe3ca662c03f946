pub mod Views
pub mod Tales
pub mod Openings
pub mod Sights
pub mod Turns
pub mod Replying
pub mod Seats
pub mod Parts
