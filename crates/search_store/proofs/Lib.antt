-- Laws of storing and putting in records that other crates' proofs cite.
pub mod Order
pub mod Insertion
pub mod Stored
