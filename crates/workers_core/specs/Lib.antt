pub mod Held
pub mod Hold
pub mod Jobs
pub mod Drops
pub mod Lines
pub mod Ready
pub mod Phases
pub mod Made
