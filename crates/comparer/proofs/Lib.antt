-- What the comparer's reply says, and what its loops rest on.
pub mod Lists
pub mod Four
pub mod Turns
pub mod Laws
