-- Lemmas, by the module of src/ whose functions need them.
pub mod capacity
pub mod counting
pub mod store
pub mod table
pub mod tally
pub mod vecmap
