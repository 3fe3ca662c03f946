pub mod Passes
pub mod Targets
pub mod Cast
