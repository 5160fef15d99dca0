pub mod Text
pub mod Lying
