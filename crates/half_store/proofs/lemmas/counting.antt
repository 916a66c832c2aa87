-- What a comparison says that was made with the key at an index.
use Rattle.half_store.proofs.Common.{◌≡◌, arith, ℕ, Bool, List, get_or, common_steps}
use Rattle.half_store.proofs.Common.{get_or_from_slice_get, ReturnsAt}

-- the match returned it at this index
pub returned_at : {K : Type 0} (returns : K → Bool → Type 0) (keys : List K) (index : ℕ) (key : K) (answer : Bool)
    → key ≡ get_or keys index key → returns key answer → ReturnsAt returns keys index answer
returned_at returns keys index key answer is met = grind (arith, common_steps, get_or_from_slice_get)
