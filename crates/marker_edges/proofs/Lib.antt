-- Laws of the edges' tests.
pub mod Turns
