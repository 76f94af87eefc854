pub mod Ranges
pub mod Parenthesized
