-- Lemmas, by the module of src/ whose functions need them.
pub mod equality
pub mod means
pub mod hits
pub mod probes
pub mod runs
pub mod searches
pub mod tails
