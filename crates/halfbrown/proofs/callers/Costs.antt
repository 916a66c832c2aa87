-- What an insertion hashes, for callers that count.
use Rattle.halfbrown.proofs.Common.{◌≡◌, ℕ, ◌+◌, ◌<◌, ◌≤◌, Bool, true, false, length, arith, common_steps, State}
use Rattle.std.proofs.lemmas.Bool.Decides.{nat_tests}
use Rattle.halfbrown.specs.Costs.{insert_asked}
use Rattle.halfbrown.specs.Growth.{is_vec_after}

module _ {K V S : Type 0} (limit : ℕ) (m : State K V S) where
  -- a vector below its limit stays one
  pub vector_with_room : m.is_vec ≡ true → length m.pairs < limit → is_vec_after limit m ≡ true
  vector_with_room vector room = grind (arith, nat_tests, common_steps)

  -- and nothing is hashed
  pub asked_with_room : (granted : Bool) → m.is_vec ≡ true → length m.pairs < limit → insert_asked limit m granted ≡ 0
  asked_with_room granted vector room = grind (arith, nat_tests, common_steps)

  -- otherwise at most each pair for the switch, and the key
  pub asked_at_most : (granted : Bool) → insert_asked limit m granted ≤ limit + 1
  asked_at_most granted = grind (arith, nat_tests, common_steps)

  -- in a table only the key
  pub asked_in_table : (granted : Bool) → m.is_vec ≡ false → insert_asked limit m granted ≤ 1
  asked_in_table granted table = grind (arith, nat_tests, common_steps)
