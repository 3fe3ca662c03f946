pub mod Told
pub mod Says
pub mod Counts
pub mod Memory
pub mod Adapter
