pub mod Shown
pub mod Skips
pub mod Scavenges
