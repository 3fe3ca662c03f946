pub mod Defined
pub mod Tables
pub mod Causes
pub mod Values
pub mod Reading
pub mod Steps
pub mod Allowed
pub mod Slips
