-- What follows for rows and propagators.
pub mod Operands
pub mod Answered
pub mod Rows
pub mod Picking
pub mod Passing
pub mod Naming
pub mod Lifting
pub mod Parts
pub mod Sorts
pub mod Arity
pub mod Lifted
pub mod Firing
pub mod Fitting
