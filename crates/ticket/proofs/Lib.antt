-- Lemmas, by subject.
mod LineEnds
mod RowsBack
