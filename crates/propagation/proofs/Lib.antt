-- Laws of unit propagation.
pub mod Literals
pub mod Status
pub mod Steps
pub mod Passes
pub mod Laws
pub mod Models
pub mod Parts
pub mod Examples
