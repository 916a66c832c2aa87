-- Lemmas of lists of pairs.
pub mod Changes
pub mod Indices
pub mod SetBy
