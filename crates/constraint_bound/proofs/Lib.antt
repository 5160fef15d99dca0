-- Laws of the base bound: as the difference of two sums, and by what the record holds of it.
pub mod Shifting
pub mod Laws
