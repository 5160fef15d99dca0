-- Laws of pieces in a lent list and of decimals that other crates' proofs cite.
pub mod Cuts
pub mod Decimals
