-- Laws that the proofs of the finder use and other crates' proofs cite.
pub mod Gap
pub mod Laws
pub mod Says
