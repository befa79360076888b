-- The propagators that a sheet holds.
pub mod Listed
