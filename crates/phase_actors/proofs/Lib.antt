pub mod Lists
pub mod Places
pub mod Parting
pub mod Moving
pub mod Actors
pub mod Splits
pub mod Castings
