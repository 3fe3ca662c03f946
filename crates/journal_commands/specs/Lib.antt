pub mod Disks
pub mod Recovered
pub mod JournalEnds
