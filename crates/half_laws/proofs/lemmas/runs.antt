-- Lemmas of the laws of runs.
pub mod Changes
pub mod Laws
pub mod Memory
pub mod Moves
pub mod Parts
pub mod Replies
