mod Rows
pub mod Totals
mod Allowed
pub mod Adding
