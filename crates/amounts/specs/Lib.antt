-- The words with numbers: their relations and their narrowing.
pub mod Numbers
pub mod Scales
-- The proofs of their laws, which the words cite where they state them.
pub mod NumberLaws
pub mod ScaleLaws
