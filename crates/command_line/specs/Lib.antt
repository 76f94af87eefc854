pub mod Levels
pub mod Printed
pub mod Words
