-- Laws of two runs, one file a concern: members and order at the end of a list; what merging gives, and the runs of a table as one list; the finder on
-- two runs; what two calls keep; a record put into the second; and the steps of merging.
pub mod Members
pub mod Views
pub mod Finding
pub mod Keeping
pub mod Putting
pub mod Turns
