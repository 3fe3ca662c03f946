pub mod NameSets
pub mod HeaderSizes
pub mod Contents
pub mod Texts
pub mod HeaderLoop
pub mod Fields
pub mod Whole
