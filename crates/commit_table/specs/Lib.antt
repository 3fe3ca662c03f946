pub mod Outcomes
pub mod Commits
pub mod Tale
pub mod Turns
pub mod Passes
pub mod Deskwork
pub mod Tables
