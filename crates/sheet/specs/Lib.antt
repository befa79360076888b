-- What the calls to a sheet answer, and what they leave.
pub mod Sheets
pub mod Calls
pub mod Misfits
