pub mod LineLists
pub mod Running
pub mod Holding
