pub mod Meaning
pub mod Check
