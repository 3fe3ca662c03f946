pub mod Says
pub mod Saying
