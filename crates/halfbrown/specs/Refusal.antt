-- Why a call was refused, for callers: the two reasons, and what is said of them.
pub use Rattle.half_store.specs.declared.refusal.Refusal.TheVariants.{Memory, Size}
pub use Rattle.half_store.specs.Refusal.{refusal_of, text_of, error_kind_of}
