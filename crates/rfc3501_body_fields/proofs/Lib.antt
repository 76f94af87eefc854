pub mod Missing
pub mod Single
