pub mod Numbers
pub mod Tasks
pub mod JournalTasks
pub mod Wanted
pub mod Found
