-- Laws of the passes that fill the lists.
pub mod Lists
pub mod Sums
pub mod Passing
