pub mod View
pub mod Samples
