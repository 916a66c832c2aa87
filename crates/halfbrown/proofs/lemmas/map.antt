-- Lemmas of the map.
pub mod Collect
pub mod Costs
pub mod Equality
pub mod Find
pub mod Growth
pub mod Insert
pub mod Iter
pub mod Layout
pub mod Remove
