pub mod Arms
pub mod Demands
pub mod Passes
pub mod Words
