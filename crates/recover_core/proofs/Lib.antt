pub mod KeySets
pub mod Passes
pub mod LiveOnes
