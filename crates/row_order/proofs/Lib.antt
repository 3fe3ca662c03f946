pub mod Keys
pub mod Crowns
mod Leftmosts
mod Drains
