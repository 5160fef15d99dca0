-- Reading a byte at a time, and the laws that it is what legal text means.
pub mod Machine
pub mod Fit
pub mod Accepts
pub mod Sound
pub mod Viable
pub mod Verdicts
pub mod Fitted
pub mod Sizes
