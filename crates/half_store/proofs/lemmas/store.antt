-- Lemmas of the store.
pub mod States
pub mod Searches
