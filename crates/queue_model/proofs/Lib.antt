-- for the crates above: lists by keys, rows, depths, histories and their order
pub mod Positions
pub mod KeyedLemmas
pub mod RowFacts
pub mod Depths
pub mod SoundSteps
pub mod Stable
pub mod Owns
pub mod Orders
pub mod Histories
pub mod Prefixes
pub mod Performing
pub mod Bells
pub mod BellRows
