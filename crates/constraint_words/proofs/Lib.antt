-- Laws of constraint words: their check step by step, what words that pass are and under which limits, their items, what is refused, the range of the base bound, and plain words.
pub mod Checking
pub mod Laws
pub mod Limits
pub mod Items
pub mod Refusals
pub mod Range
pub mod Plain
