-- What follows from the laws of kinds.
pub mod Narrowing
pub mod Lists
pub mod Counts
