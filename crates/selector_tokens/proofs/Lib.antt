pub mod Digits
pub mod Fronts
pub mod Lexed
pub mod Quotes
pub mod Within
