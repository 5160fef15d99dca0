pub mod Truth
pub mod Written
pub mod Checked
