-- What contracts see of a `Drain`: the pairs still to come, and what the map will be.
use Rattle.std.specs.Prelude.{◌≡◌, List, [], ◌∷◌, Option, MatchOption}
use Rattle.std.specs.Borrow.{GName}
use Rattle.std.specs.Iterator.{Yields}
use Rattle.std.specs.Iterator.Runs.{YieldsInOrder}
use Rattle.halfbrown.specs.Ghosts.{EqGhosts, HashGhosts, HasherGhosts, LimitGhosts}
use Rattle.half_store.specs.declared.store.drain.IntoStore as taken
use Rattle.half_store.specs.Store.{StoreState}
use Rattle.halfbrown.specs.declared.drain.Drain.{Drain}
use Rattle.halfbrown.specs.State.{State, map_with_pairs, state_in}

-- the map once this `Drain` is dropped: as before, with no pair
abbrev pub map_once_dropped : {K V S L P H : Type 0} {e : EqGhosts K} {h : HashGhosts K} {b : HasherGhosts S K H} {l : LimitGhosts L} {p : taken.Ghosts P K V}
    → Drain K V S L P H e h b l p → State K V S
map_once_dropped {p} d = map_with_pairs (state_in (p.store d.pairs) d.map.now.builder) []

module _ {K V S L H : Type 0} {e : EqGhosts K} {h : HashGhosts K} {b : HasherGhosts S K H} {l : LimitGhosts L} {p : taken.Ghosts (StoreState K V) K V} where
  -- the pairs that are still to come, first to last
  abbrev pub pairs_to_come : Drain K V S L (StoreState K V) H e h b l p → List (K × V)
  pairs_to_come d = d.pairs.pairs

  -- old and new borrow the same map, with its builder, and leave it in the same form, with the same capacity
  pub record DrainsSameMap (old new : Drain K V S L (StoreState K V) H e h b l p) : Type 0 where
    pub map : new.map ≡ old.map
    pub form : new.pairs.is_vec ≡ old.pairs.is_vec
    pub capacity : new.pairs.capacity ≡ old.pairs.capacity

  -- `next` took s to t, and returned r: the first pair that was still to come; or None, and nothing changed
  abbrev pub DrainSteps : Drain K V S L (StoreState K V) H e h b l p → Option (K × V) → Drain K V S L (StoreState K V) H e h b l p → Type 0
  DrainSteps s r t = MatchOption r ((pairs_to_come s ≡ []) × (t ≡ s)) (λ x. (pairs_to_come s ≡ x ∷ pairs_to_come t) × DrainsSameMap s t)

  -- s borrows the map of this ghost name; calls of `next` of any `Drain` give the first of the pairs that it had left, in order; and each state
  -- that they lead to from s borrows the same map, in the same form and capacity
  pub record StepsThroughPairs (name : GName) (s : Drain K V S L (StoreState K V) H e h b l p) : Type 0 where
    pub same_map : s.map.ghost_name ≡ name
    pub pairs : YieldsInOrder DrainSteps pairs_to_come
    pub keeps : (ps : List (K × V)) (t : Drain K V S L (StoreState K V) H e h b l p) → Yields DrainSteps s ps t → DrainsSameMap s t
