pub mod Cursors
pub mod Lexing
pub mod Spelling
pub mod Tokens
