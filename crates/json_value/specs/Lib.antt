pub mod Error
pub mod Json
pub mod Members
pub mod Pointer
pub mod Rows
