pub mod Parting
pub mod Holding
pub mod Serving
pub mod Deleting
pub mod Numbers
pub mod Starting
pub mod HeldParts
mod Sharing
