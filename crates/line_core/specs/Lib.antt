pub mod Hands
pub mod Places
pub mod Fits
pub mod Runs
pub mod Laws
