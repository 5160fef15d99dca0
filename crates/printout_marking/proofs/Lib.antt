-- Laws of the printed line of a marking: of counted parts, the input, and the lengths of texts.
pub mod Parts
pub mod Input
pub mod Fits
