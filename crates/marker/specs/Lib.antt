pub mod Reply
pub mod Fields
