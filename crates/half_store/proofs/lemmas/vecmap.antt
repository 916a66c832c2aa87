-- Lemmas of the vector.
pub mod Columns
pub mod Replace
pub mod Search
pub mod Zip
