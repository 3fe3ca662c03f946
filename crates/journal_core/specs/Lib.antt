pub mod Stands
pub mod History
pub mod Kept
pub mod Opening
pub mod Reading
