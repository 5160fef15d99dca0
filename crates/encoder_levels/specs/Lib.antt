pub mod Reply
pub mod Passes
