-- Calls that are played make a history.
pub mod Served
pub mod Played
