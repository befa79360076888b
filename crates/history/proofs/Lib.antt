-- Every history keeps the promise.
pub mod Lists
pub mod Checks
pub mod Held
pub mod Histories
pub mod Once
pub mod Alike
pub mod Settled
pub mod Promises
