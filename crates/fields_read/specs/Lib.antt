pub mod Json
pub mod Forms
pub mod Fields
pub mod Faults
