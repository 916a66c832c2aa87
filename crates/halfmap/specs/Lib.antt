pub mod Answer
pub mod Line
pub mod Reading
pub mod Request
pub mod Session
pub mod Text
