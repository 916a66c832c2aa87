pub mod Common
pub mod callers
pub mod lemmas
