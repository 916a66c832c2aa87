-- Lemmas of entries.
pub mod Methods
