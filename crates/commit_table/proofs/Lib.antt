pub mod Books
pub mod Giving
pub mod Beginning
pub mod Carrying
pub mod Locking
pub mod Parting
pub mod Sames
