pub mod HandIn
pub mod Judged
