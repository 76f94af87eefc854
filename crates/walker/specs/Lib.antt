pub mod Walk
pub mod Trees
pub mod Held
pub mod Samples
