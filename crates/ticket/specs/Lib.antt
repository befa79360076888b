-- Lines, entries and whole tickets.
pub mod Words
pub mod Entries
pub mod Lines
pub mod Fields
pub mod Tickets
pub mod Rows
pub mod Rounds
