-- What it means for bounds to rest, for values to be a whole match, and for a search to end.
pub mod Resting
pub mod Matches
pub mod Search
pub mod Theorems
