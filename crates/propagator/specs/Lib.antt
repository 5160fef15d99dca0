pub mod Reply
pub mod Pass
