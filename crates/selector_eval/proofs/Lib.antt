pub mod PatternTests
pub mod Places
pub mod LikeLaw
pub mod ValueTables
