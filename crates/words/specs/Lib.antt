-- The words over groups of bales: their relations and their narrowing.
pub mod Cells
pub mod Fields
pub mod Rows
pub mod Tells
pub mod Pairs
pub mod Triples
pub mod Members
-- The proofs of their laws, which the words cite where they state them.
pub mod CellsLemmas
pub mod Fitting
pub mod GroupFields
pub mod Places
pub mod Carrying
pub mod PairLaws
pub mod TripleLaws
pub mod MemberLaws
