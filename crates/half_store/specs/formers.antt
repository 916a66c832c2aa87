pub mod store
pub mod vecmap
