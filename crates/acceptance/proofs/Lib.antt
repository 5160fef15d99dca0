-- The marker accepts what the encoder draws.
pub mod Encoded
