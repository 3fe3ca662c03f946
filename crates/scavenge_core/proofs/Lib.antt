pub mod Logs
pub mod Lasting
pub mod Stepping
pub mod Visiting
pub mod Noting
