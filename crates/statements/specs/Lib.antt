-- The statements of both sheets, and worked cases.
pub mod Statements
pub mod ScaleStatements
pub mod Cases
-- The proofs of laws that the scale sheet's statements cite where they state them.
pub mod ScaleStatementLaws
