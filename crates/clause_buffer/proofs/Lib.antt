-- Laws of clauses in a buffer that other crates' proofs cite.
pub mod Writing
pub mod Turns
