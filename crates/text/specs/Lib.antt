-- Parts, numbers and lists of places.
pub mod Answers
pub mod Numbers
pub mod Parts
pub mod Lists
