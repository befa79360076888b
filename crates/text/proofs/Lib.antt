-- Lemmas, by subject.
pub mod Cuts
pub mod Digits
mod Members
mod Rising
pub mod Lists
mod Shown
