pub mod Derived
pub mod Propagated
pub mod Extension
