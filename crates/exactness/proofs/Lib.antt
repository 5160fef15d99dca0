-- Unit propagation on the clauses of a drawing is exact.
pub mod Closed
pub mod Lowest
pub mod Raised
pub mod Drawing
pub mod Words
pub mod Encoded
pub mod Examples
