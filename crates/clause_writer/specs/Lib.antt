pub mod Drawing
pub mod Held
