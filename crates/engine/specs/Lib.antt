-- Rows of bounds, propagators and their laws.
pub mod Rows
pub mod Laws
pub mod Fires
pub mod Fits
pub mod Telling
pub mod Parts
pub mod Arity
