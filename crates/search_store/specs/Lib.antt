pub mod Copy
pub mod Stored
pub mod Insert
