pub mod Items
pub mod Staging
pub mod Entering
pub mod Room
pub mod Laws
