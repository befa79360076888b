-- What follows for the calls to a sheet.
pub mod Misfits
