-- Lemmas on sets of places, by subject.
pub mod Tables
pub mod Members
pub mod Lowest
pub mod Sums
pub mod Counts
pub mod Order
