pub mod Spelling
pub mod Reading
pub mod Journal
pub mod Filled
pub mod Batches
pub mod Laws
