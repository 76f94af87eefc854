pub mod Cursor
pub mod Table
pub mod Fill
pub mod Promise
pub mod Lists
