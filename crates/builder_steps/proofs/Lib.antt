-- Laws of putting a record in that the builder's proofs cite.
pub mod Settling
