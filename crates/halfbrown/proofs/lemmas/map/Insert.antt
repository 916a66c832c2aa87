-- Insertions: what was prepared for a pair, and the pair put then.
use Rattle.halfbrown.proofs.Common.{◌≡◌, ℕ, Bool, arith, List, Option, Some, common_steps, IsEquivalence, keys_of, capacity_for_insert, Prepares, value_of, put, State}
use Rattle.halfbrown.proofs.Common.{WithPairs, IsValid}
use Rattle.std.proofs.Common.{Ok}
use Rattle.halfbrown.specs.Growth.{capacity_for_new_key}
use Rattle.halfbrown.specs.Insertion.{PutsOrHandsBack, PutsOrHandsBackWithIndex, PutsNewKeyOrHandsBack}
use Rattle.halfbrown.specs.Pairs.{index_of}
use Rattle.halfbrown.proofs.callers.Pairs.{has_put}

module _ {K V S : Type 0} (limit : ℕ) (eq : K → K → Bool) (laws : IsEquivalence eq) (old middle new : State K V S) (k : K) (v : V)
    (ps : List (K × V)) (written : WithPairs middle ps new) (put_is : put eq middle.pairs k v ≡ ps) where
  -- a granted insertion, by the value that the key had in the map that was prepared
  pub inserted : Prepares limit old (capacity_for_insert limit eq old k) middle → (before : Option V)
      → before ≡ value_of eq middle.pairs k → IsValid limit eq new → PutsOrHandsBack limit eq old k v (Ok before) new
  inserted prepared before was now = grind (arith, common_steps, has_put eq laws old.pairs k v)

  -- a granted insertion, by the index of the pair and the value that the key had in the map that was prepared
  pub inserted_at : Prepares limit old (capacity_for_insert limit eq old k) middle → (index : ℕ) (before : Option V)
      → before ≡ value_of eq middle.pairs k → index_of (eq k) (keys_of ps) ≡ Some index
      → IsValid limit eq new → PutsOrHandsBackWithIndex limit eq old k v (Ok (index, before)) new
  inserted_at prepared index before was at now = grind (arith, common_steps, has_put eq laws old.pairs k v)

  -- a granted insertion without a search
  pub inserted_unchecked : Prepares limit old (capacity_for_new_key limit old) middle → IsValid limit eq new
      → PutsNewKeyOrHandsBack limit eq old k v (Ok tt) new
  inserted_unchecked prepared now = grind (arith, common_steps, has_put eq laws old.pairs k v)
