use Rattle.half_store.proofs.Common.{◌≡◌, ◌≤◌, vec_len, vec_capacity, ◌-◌, replicate}
use Rattle.half_store.proofs.words.WordVec.filled.Given as goal

-- all words that are there are this one, and the block has room for the rest
abbrev pub invariant-loop-word : goal.invariant-loop-word
invariant-loop-word g l = record {
  items : l.words.items ≡ replicate (vec_len l.words) l.word;
  few : vec_len l.words ≤ l.count;
  capacity : vec_capacity l.words ≡ l.count;
}

abbrev pub decreases-loop-word : goal.decreases-loop-word
decreases-loop-word g l = l.count - vec_len l.words
