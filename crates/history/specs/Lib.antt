-- What a sheet is told, holds and answers, and what is promised of every history of calls.
pub mod Told
pub mod Holds
pub mod Denials
pub mod Histories
pub mod Promise
