-- What a removal does to a store, in order or by the last pair, and to the buckets before pairs are shifted back.
use Rattle.std.specs.Prelude.{◌≡◌, ℕ, ◌-◌, false, List, length, slice_get, slice_index, slice_set, Some, suc, ◌==◌, nat_lt, if◌then◌else◌}
use Rattle.half_store.specs.PairLists.{swap_remove_at}
use Rattle.half_store.specs.Work.{ReadsWithin, Work}
use Rattle.half_store.specs.Slots.{slots_from}
use Rattle.half_store.specs.Reach.{probe_distance}
use Rattle.half_store.specs.Store.{StoreState, SameFormAndCapacity}
use Rattle.half_store.specs.Table.{IsOtherEmpty}
use Rattle.std.specs.List.{remove}

-- closing the gap at this bucket reads those after it, up to any empty one
abbrev pub ShiftReadsWithin : List ℕ → List ℕ → ℕ → Work → Work → Type 0
ShiftReadsWithin hashes old removed before after = (vacant : ℕ) → IsOtherEmpty (slots_from hashes (slice_set old removed 0)) removed vacant →
    ReadsWithin (probe_distance (length old) removed vacant) before after

module _ {K V : Type 0} (old new : StoreState K V) where
  -- the pair at this index is gone, and the last pair has its index
  pub record StoreSwapRemoves (index : ℕ) (pair : K × V) : Type 0 where
    pub removed : slice_get old.pairs index ≡ Some pair
    pub pairs : new.pairs ≡ swap_remove_at old.pairs index
    pub hashes : old.is_vec ≡ false → new.table.hashes ≡ swap_remove_at old.table.hashes index
    pub form : SameFormAndCapacity old new

-- the word of a bucket once the pair at this index is the last of `pairs`, and each pair behind it has the index before its own
abbrev pub word_after_move : ℕ → ℕ → ℕ → ℕ
word_after_move pairs index word = if word == suc index then pairs else (if nat_lt index word then word - 1 else word)

-- the buckets after the pair at this index became the last one: each of them has that word
pub record MovesToEnd (pairs index : ℕ) (old new : List ℕ) : Type 0 where
  pub len : length new ≡ length old
  pub words : (bucket : ℕ) → slice_index new bucket ≡ word_after_move pairs index (slice_index old bucket)

-- the pair at this index is gone, and each pair behind it has the index before its own
pub record StoreShiftRemoves {K V : Type 0} (old new : StoreState K V) (index : ℕ) (pair : K × V) : Type 0 where
  pub removed : slice_get old.pairs index ≡ Some pair
  pub pairs : new.pairs ≡ remove old.pairs index
  pub hashes : old.is_vec ≡ false → new.table.hashes ≡ remove old.table.hashes index
  pub form : SameFormAndCapacity old new
