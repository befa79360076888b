-- The bale list and its numbers.
pub mod Ranges
pub mod Tables
pub mod Lists
