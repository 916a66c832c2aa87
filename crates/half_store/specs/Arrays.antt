-- The memory of a store: its arrays and the block of its table, and their bytes.
use Rattle.std.specs.Prelude.{ℕ, ◌+◌, ◌*◌, Bool, if◌then◌else◌}
use Rattle.half_store.specs.declared.store.memory.Arrays.{Arrays}
use Rattle.half_store.specs.Capacity.{buckets_of}
use Rattle.half_store.specs.Words.{word_size}

-- the arrays of this form and this capacity: a table also has a hash for each pair and a word for each bucket, and itself stands in a
-- block of 56 bytes
abbrev pub arrays_of : Bool → ℕ → Arrays
arrays_of is_vec capacity =
    let held : ℕ = if is_vec then 0 else capacity in
    let block : ℕ = if is_vec then 0 else 56 in
    record { keys = capacity; values = capacity; hashes = held; words = buckets_of held; word_size = word_size held; table = block }

-- the bytes of all of them, if a key has `key` of them, a value `value`, and a hash eight
abbrev pub bytes_in : ℕ → ℕ → Arrays → ℕ
bytes_in key value a = key * a.keys + value * a.values + 8 * a.hashes + a.word_size * a.words + a.table

-- the bytes of the arrays of a store or map of this form and this capacity
abbrev pub bytes : ℕ → ℕ → Bool → ℕ → ℕ
bytes key value is_vec capacity = bytes_in key value (arrays_of is_vec capacity)
