-- Lemmas, each file on those before it.
pub mod Sums
pub mod Stops
pub mod Blocks
pub mod Recursion
pub mod Algebra
pub mod Homes
pub mod Means
pub mod Filling
pub mod Least
pub mod Powers
pub mod Crowds
pub mod Tail
pub mod TailLaws
