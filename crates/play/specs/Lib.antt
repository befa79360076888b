-- What the answers of a program stand for, and what is promised of calls that are played.
pub mod Plays
