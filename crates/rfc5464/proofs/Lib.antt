pub mod Names
pub mod Contents
