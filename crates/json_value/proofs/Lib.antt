pub mod Changing
pub mod Common
pub mod Merging
pub mod PathFacts
pub mod Placed
pub mod Pointer
pub mod Reading
pub mod Writing
