pub mod Lexing
pub mod Lexer
pub mod Finding
