-- Lemmas on the fixpoint and the search, by subject.
pub mod Sharing
pub mod Resting
pub mod Opening
pub mod Rows
pub mod Steps
