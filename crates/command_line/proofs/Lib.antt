pub mod Both
pub mod Numbering
pub mod CommandLines
