pub mod Numbered
pub mod Doings
pub mod Answered
pub mod FirstInOrder
