-- The one hash that a builder gives a key.
use Rattle.std.specs.Prelude.{ℕ, fold}
use Rattle.std.specs.Hash.{HashWrites}
use Rattle.std.specs.declared.hash.Hasher as hasher
use Rattle.std.specs.declared.hash.BuildHasher as builder

-- what the builder's hasher returns after the key's writes, in their order
abbrev pub hash_by : {S H : Type 0} → builder.Ghosts S H → hasher.Ghosts H → S → HashWrites → ℕ
hash_by b h s writes = h.finish (fold h.write (b.build_hasher s) writes)
