-- What the iterators of a map have left, how they step, and what their runs show.
use Rattle.std.specs.Prelude.{List, Option, zip}
use Rattle.std.specs.Borrow.{Bor, GName, MutBor}
use Rattle.std.specs.Iterator.{YieldsFirstBy}
use Rattle.std.specs.Iterator.Runs.{EveryRun, ItemsMapTo}
use Rattle.std.specs.Map.{values_of}
use Rattle.std.specs.Map.Iter.{deref_pair}
use Rattle.std.specs.Slice.Iter as slice
use Rattle.halfbrown.specs.declared.iter.Iter.{Iter}
use Rattle.halfbrown.specs.declared.iter.iter_mut.IterMut.{IterMut}
use Rattle.halfbrown.specs.declared.iter.values_mut.ValuesMut.{ValuesMut}

module _ {K V : Type 0} where
  -- the pairs that an `Iter` has left
  abbrev pub pairs_left : Iter K V → List (K × V)
  pairs_left s = zip (slice.iter_rest s.keys) (slice.iter_rest s.values)

  -- a call of its `next` at s gave r and left t
  abbrev pub IterSteps : Iter K V → Option (Bor K × Bor V) → Iter K V → Type 0
  IterSteps = YieldsFirstBy deref_pair pairs_left

  -- the pairs that an `IterMut` has left
  abbrev pub iter_mut_left : IterMut K V → List (K × V)
  iter_mut_left s = zip (slice.iter_rest s.keys) (slice.iter_mut_rest s.values)

  -- the name of its loan
  abbrev pub iter_mut_name : IterMut K V → GName
  iter_mut_name s = slice.iter_mut_name s.values

  -- the values that a `ValuesMut` has left
  abbrev pub values_mut_left : ValuesMut K V → List V
  values_mut_left s = slice.iter_mut_rest s.values

  -- the name of its loan
  abbrev pub values_mut_name : ValuesMut K V → GName
  values_mut_name s = slice.iter_mut_name s.values

  -- a call of its `next` at s gave r and left t
  abbrev pub ValuesMutSteps : ValuesMut K V → Option (MutBor V) → ValuesMut K V → Type 0
  ValuesMutSteps s r t = slice.iter_mut_steps s.values r t.values

module _ (K V : Type 0) where
  -- calls of `next` of any `Iter` give the first of the pairs that it had left, in order; once it returned none, all of them. The same holds
  -- of their values
  pub record ShowsPairsInOrder : Type 0 where
    pub pairs : EveryRun (IterSteps {K = K} {V = V}) (λ p. ItemsMapTo p deref_pair (pairs_left p.from))
    pub values : EveryRun (IterSteps {K = K} {V = V}) (λ p. ItemsMapTo p (λ x. x.1.now) (values_of (pairs_left p.from)))
