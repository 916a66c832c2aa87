-- Lemmas of raw entries.
pub mod Methods
