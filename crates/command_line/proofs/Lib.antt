pub mod Numerals
pub mod Plain
pub mod Stack
