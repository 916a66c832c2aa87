-- Why a call that needs more capacity may be refused.
use Rattle.std.specs.Prelude.{◌≡◌, ℕ, ◌^◌, ◌≤◌, nat_lt, List, codes, Option, IfSome, if◌then◌else◌}
use Rattle.std.specs.Option.{IsSomeAnd}
use Rattle.std.specs.declared.io.ErrorKind.{ErrorKind}
use Rattle.std.specs.declared.io.ErrorKind.TheVariants.{OutOfMemory, InvalidInput}
pub use Rattle.half_store.specs.declared.refusal.Refusal.{Refusal}
pub use Rattle.half_store.specs.declared.refusal.Refusal.TheVariants.{Memory, Size}

-- why a call that needs capacity for this many pairs is refused, if it is: `Size` for more than 2^60, otherwise `Memory`
abbrev pub refusal_of : ℕ → Refusal
refusal_of needed = if nat_lt (2 ^ 60) needed then Size else Memory

-- a call that needs this much capacity was refused for this reason; one that needs none is never refused
abbrev pub IsRefusal : Option ℕ → Refusal → Type 0
IsRefusal needed why = IsSomeAnd needed (λ n. why ≡ refusal_of n)

-- what a granted call needed: capacity for no more than 2^60 pairs
abbrev pub IsGrantable : Option ℕ → Type 0
IsGrantable needed = IfSome needed (λ n. n ≤ 2 ^ 60)

-- what a reason is written as
abbrev pub text_of : Refusal → List ℕ
text_of Memory = codes "memory could not be allocated"
text_of Size = codes "more than 2^60 pairs"

-- the kind of the `io::Error` that a reason becomes
abbrev pub error_kind_of : Refusal → ErrorKind
error_kind_of Memory = OutOfMemory
error_kind_of Size = InvalidInput
