-- What the errors of the JSON reader become.
use Rattle.std.specs.Prelude.{◌≡◌}
use Rattle.json_value.specs.declared.value.error.Error.{Error}
use Rattle.json_value.specs.declared.value.error.Error.TheVariants as here
use Rattle.json.specs.declared.error.Error.{Error as JsonError}
use Rattle.json.specs.declared.error.Error.TheVariants.{Invalid, OutOfMemory, TooLong, DuplicateKey}

-- a text that is no JSON is invalid, and any other error is for lack of memory
abbrev pub IsErrorOf : JsonError → Error → Type 0
IsErrorOf Invalid error = error ≡ here.Invalid
IsErrorOf OutOfMemory error = error ≡ here.Memory
IsErrorOf TooLong error = error ≡ here.Memory
IsErrorOf DuplicateKey error = error ≡ here.Memory
