pub mod ItemSizes
pub mod Names
pub mod Staged
pub mod Rooms
pub mod Bodies
