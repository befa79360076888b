-- Lemmas, by subject.
pub mod Numbers
mod Tables
