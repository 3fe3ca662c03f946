pub mod Joining
pub mod Playing
pub mod Phased
pub mod Rows
