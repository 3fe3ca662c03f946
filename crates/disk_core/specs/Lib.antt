pub mod Images
pub mod Trails
pub mod Memory
pub mod MemoryLaws
pub mod Files
