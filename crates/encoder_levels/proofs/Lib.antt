-- Laws of the passes of a call.
pub mod Answers
pub mod Tables
