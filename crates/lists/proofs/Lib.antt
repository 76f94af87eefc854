pub mod Members
pub mod Lists
