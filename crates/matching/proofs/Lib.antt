-- Lemmas, by subject.
mod Runs
