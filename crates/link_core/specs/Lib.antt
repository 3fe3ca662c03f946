pub mod Layout
pub mod Table
pub mod Stands
pub mod Steps
pub mod Fresh
pub mod Laws
pub mod Kept
pub mod Advanced
