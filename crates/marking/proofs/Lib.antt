-- Laws of hand-ins: the computed judgement is the right one, a right hand-in is a right drawing and a right drawing's words are a right hand-in, and so are a table's.
pub mod Rows
pub mod Edges
pub mod Each
pub mod Judged
pub mod Drawing
pub mod Behind
pub mod Tables
