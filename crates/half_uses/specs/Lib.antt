pub mod Bank
pub mod BoundedCache
pub mod Interner
pub mod LabelSums
pub mod Labels
pub mod Memo
pub mod Scopes
pub mod Words
