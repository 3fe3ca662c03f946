pub mod Kinds
pub mod Parting
pub mod Scavenging
pub mod Walked
