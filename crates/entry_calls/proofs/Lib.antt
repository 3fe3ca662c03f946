pub mod Changes
pub mod Replying
pub mod Dequeuing
pub mod Running
pub mod Turning
pub mod Putting
pub mod Ringing
pub mod Naming
pub mod Depthing
mod Closable
mod Working
