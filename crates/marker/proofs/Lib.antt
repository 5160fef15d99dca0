-- Laws of the marker: of each branch of its code, of its words, and of what its reply says.
pub mod Tests
pub mod Judging
pub mod Stated
pub mod Laws
pub mod Examples
pub mod Rules
