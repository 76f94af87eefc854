pub mod Answers
pub mod Exports
