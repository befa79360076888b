-- The kinds of cell and their laws.
pub mod Laws
pub mod Tells
pub mod Counted
pub mod Mixes
pub mod Numbers
pub mod Groups
-- The proofs of the laws of each kind, which the kinds cite where they state them.
pub mod Options
pub mod GroupsLemmas
pub mod NumbersLemmas
pub mod MixesLemmas
