pub mod Bound
pub mod Sums
