-- Lemmas, by the module of src/ whose functions need them.
pub mod drain
pub mod entry
pub mod map
pub mod pairs
pub mod raw_entry
pub mod run
