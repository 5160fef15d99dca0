-- Laws of the loop over the bytes, and of the promise.
pub mod Loop
pub mod Once
