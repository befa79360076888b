-- Refusals, and how they are shown.
pub mod Refusals
pub mod Text
