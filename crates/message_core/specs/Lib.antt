pub mod Spelling
pub mod Names
pub mod Making
pub mod Reading
pub mod Fields
pub mod Laws
