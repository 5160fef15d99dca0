pub mod Text
pub mod Claim
pub mod Written
pub mod Reply
pub mod Machine
