pub mod Interning
pub mod Recency
pub mod TableCapacity
pub mod TextWords
