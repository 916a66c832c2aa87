-- What a failure says of the input.
use Rattle.std.specs.Prelude.{◌≡◌, ℕ, List}
use Rattle.std.specs.Str.{IsUtf8}
use Rattle.std.specs.Str.Lossy.{utf8_valid_len}
use Rattle.word_count.specs.declared.failure.Failure.{Failure}
use Rattle.word_count.specs.declared.failure.Failure.TheVariants.{NotText, Refused, Io}

-- a failure that calls the input no text is right, and names the first byte that is none. Memory is asked only for a text.
-- Nothing is read or written here
abbrev pub IsFailureOf : List ℕ → Failure → Type 0
IsFailureOf bytes (NotText at) = ¬ (IsUtf8 bytes) × (at ≡ utf8_valid_len bytes)
IsFailureOf bytes (Refused why) = IsUtf8 bytes
IsFailureOf bytes (Io error) = ⊥
