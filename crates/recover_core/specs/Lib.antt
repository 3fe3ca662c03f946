pub mod Live
pub mod Places
pub mod Passed
pub mod Recovered
pub mod Opened
