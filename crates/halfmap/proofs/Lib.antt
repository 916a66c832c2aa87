pub mod Buffers
pub mod Common
pub mod LongLines
pub mod Numerals
pub mod Reading
pub mod Serving
pub mod Words
