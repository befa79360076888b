-- What the solver's calls answer.
pub mod Waking
pub mod Fixpoint
pub mod Nodes
pub mod Endings
pub mod Settling
