-- Lemmas of the table.
pub mod Buckets
pub mod Circle
pub mod Counts
pub mod Deletion
pub mod Filled
pub mod Find
pub mod History
pub mod Hits
pub mod Layout
pub mod Mask
pub mod Probe
pub mod Reach
pub mod Shift
pub mod Slots
pub mod Sums
