-- The theorems on resting bounds and on searches, from the laws.
pub mod Laws
pub mod Rows
pub mod Resting
pub mod Halved
pub mod Searches
pub mod Endings
pub mod Stands
