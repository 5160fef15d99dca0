-- Laws of the written form that other crates' proofs cite, and the turns of the writer's loops.
pub mod Restored
pub mod Turns
pub mod Replies
