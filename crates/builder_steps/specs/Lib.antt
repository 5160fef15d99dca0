pub mod Branch
pub mod Put
