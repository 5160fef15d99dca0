-- Laws of the lines, and of the drawing that they are printed from.
pub mod Turns
pub mod Drawn
