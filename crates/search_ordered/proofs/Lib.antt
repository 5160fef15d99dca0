-- Laws of the search that other crates' proofs cite.
pub mod Order
pub mod Search
