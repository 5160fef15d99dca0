-- The turns of the propagator's loops, and the laws of the call.
pub mod Meets
pub mod Looks
pub mod Places
pub mod EndWords
pub mod PassSoFar
pub mod Forwards
pub mod Backwards
pub mod Rounds
pub mod Fronts
pub mod Checks
pub mod Replies
pub mod Laws
