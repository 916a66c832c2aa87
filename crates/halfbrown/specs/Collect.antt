-- What becomes of items that are collected into a map.
use Rattle.std.specs.Prelude.{◌≡◌, ℕ, Bool, true, false, List, [], ◌∷◌, ◌++◌, ◌⊎◌, Option, reverse}
use Rattle.std.specs.Iterator.{Count, Yields, Drains}
use Rattle.std.specs.Iterator.SizeHint.{IsWithinCount}
use Rattle.std.specs.Option.{option_or}
use mathlib.Core.Logic.{inl, inr}
use Rattle.halfbrown.specs.CostRanges.{Cost, no_cost, add_costs}
use Rattle.halfbrown.specs.Costs.{insert_cost}
use Rattle.halfbrown.specs.ByKey.{add_keys, first_of_each}
use Rattle.halfbrown.specs.Growth.{capacity_for_making, capacity_for_insert, Refusal, IsRefusal}
use Rattle.halfbrown.specs.Insertion.{Puts}
use Rattle.halfbrown.specs.Making.{IsEmptyFor}
use Rattle.halfbrown.specs.Pairs.{keys_of, put, value_of}
use Rattle.halfbrown.specs.State.{State, IsValid}

module _ {K V : Type 0} (eq : K → K → Bool) where
  -- the pairs once these items are put, one after another
  abbrev pub put_all : List (K × V) → List (K × V) → List (K × V)
  put_all pairs [] = pairs
  put_all pairs (p ∷ items) = put_all (put eq pairs p.0 p.1) items

  -- for each class of equal keys one pair, with the first key and the last value, in the order in which the keys first come
  abbrev pub collected : List (K × V) → List (K × V)
  collected items = put_all [] items

  -- the value of the last item whose key equals k
  abbrev pub last_value_of : List (K × V) → K → Option V
  last_value_of items k = value_of eq (reverse items) k

-- the calls of an iterator gave these items, and there may be more
abbrev pub Gives : {I X : Type 0} → (I → Option X → I → Type 0) → I → List X → Type 0
Gives {I} steps it items = (left : I) × Yields steps it items left

-- these items are the first of a list
abbrev pub AreFirst : {X : Type 0} → List X → List X → Type 0
AreFirst {X} all items = (left : List X) × (all ≡ items ++ left)

module _ {K V S : Type 0} (limit : ℕ) (eq : K → K → Bool) where
  -- from old to new the items are inserted, granted, one after another
  abbrev pub InsertsAll : State K V S → List (K × V) → State K V S → Type 0
  InsertsAll old [] new = new ≡ old
  InsertsAll old (p ∷ items) new = (next : State K V S)
      × Puts limit eq old p.0 p.1 (capacity_for_insert limit eq old p.0) next × IsValid limit eq next × InsertsAll next items new

  -- from old to new these items are inserted: new keys come behind those held, in order, and each key has the last value that was given for it
  pub record Extends (old : State K V S) (items : List (K × V)) (new : State K V S) : Type 0 where
    pub pairs : new.pairs ≡ put_all eq old.pairs items
    pub keys : keys_of new.pairs ≡ add_keys eq (keys_of old.pairs) (keys_of items)
    pub values : (k : K) → value_of eq new.pairs k ≡ option_or (last_value_of eq items k) (value_of eq old.pairs k)
    pub builder : new.builder ≡ old.builder
    pub inserted : InsertsAll old items new

  -- there are items of which `given` holds: all but the last were inserted, which made `new`, and there the last was refused
  pub record InsertRefused (given : List (K × V) → Type 0) (old : State K V S) (why : Refusal) (new : State K V S) : Type 0 where
    pub before : List (K × V)
    pub key : K
    pub value : V
    pub were_given : given (before ++ (key, value) ∷ [])
    pub inserted : InsertsAll old before new
    pub refused : IsRefusal (capacity_for_insert limit eq new key) why

  module _ (is_default : S → Type 0) (needed : ℕ) where
    -- a map of these items: it was made with capacity for this many pairs, and the items were inserted one after another
    pub record Collects (items : List (K × V)) (m : State K V S) : Type 0 where
      pub pairs : m.pairs ≡ collected eq items
      pub keys : keys_of m.pairs ≡ first_of_each eq (keys_of items)
      pub values : (k : K) → value_of eq m.pairs k ≡ last_value_of eq items k
      pub builder : is_default m.builder
      pub made : State K V S
      pub is_made : IsEmptyFor is_default limit needed made
      pub inserted : InsertsAll made items m

    -- a map was made with capacity for this many pairs, and then the insertion of an item was refused
    pub record ItemRefused (given : List (K × V) → Type 0) (why : Refusal) : Type 0 where
      pub made : State K V S
      pub is_made : IsEmptyFor is_default limit needed made
      pub reached : State K V S
      pub insertion : InsertRefused given made why reached

    -- why items were not collected: the first capacity was refused, or the insertion of an item; `given` holds of the items up to it
    abbrev pub CollectRefused : (List (K × V) → Type 0) → Refusal → Type 0
    CollectRefused given why = IsRefusal (capacity_for_making needed) why ⊎ ItemRefused given why

  -- what insertions cost, those that were granted and one that was refused
  module _ (hash : S → K → ℕ) where
    abbrev pub insertions_cost : (old : State K V S) (items : List (K × V)) (new : State K V S) → InsertsAll old items new → Cost
    insertions_cost old [] new inserted = no_cost
    insertions_cost old (p ∷ items) new inserted =
        add_costs (insert_cost limit eq hash old p.0 true) (insertions_cost inserted.0 items new inserted.3)

    -- and those before an insertion that was refused, and that one
    abbrev pub refused_cost : {given : List (K × V) → Type 0} {old : State K V S} {why : Refusal} {new : State K V S}
        → InsertRefused given old why new → Cost
    refused_cost {old = old} {new = new} r =
        add_costs (insertions_cost old r.before new r.inserted) (insert_cost limit eq hash new r.key false)

    abbrev pub collection_cost : {is_default : S → Type 0} {needed : ℕ} {items : List (K × V)} {m : State K V S}
        → Collects is_default needed items m → Cost
    collection_cost {items = items} {m = m} c = insertions_cost c.made items m c.inserted

    abbrev pub refused_collection_cost : {is_default : S → Type 0} {needed : ℕ} {given : List (K × V) → Type 0} {why : Refusal}
        → CollectRefused is_default needed given why → Cost
    refused_collection_cost (inl refused) = no_cost
    refused_collection_cost (inr item) = refused_cost item.insertion

-- items that come from an iterator: it is made from them, and each call of it is a step
module _ {K V S C I : Type 0} (into : C → I → Type 0) (steps : I → Option (K × V) → I → Type 0) (limit : ℕ) (eq : K → K → Bool) where
  -- from old to new all that the iterator gave is inserted
  pub record InsertsAllOfIter (items : C) (old new : State K V S) : Type 0 where
    pub iterator : I
    pub from_items : into items iterator
    pub gave : List (K × V)
    pub drained : Drains steps iterator gave
    pub extends : Extends limit eq old gave new

  -- the last item that was taken from the iterator was refused, and those before it are inserted
  pub record InsertsUntilRefused (items : C) (old new : State K V S) (why : Refusal) : Type 0 where
    pub iterator : I
    pub from_items : into items iterator
    pub insertion : InsertRefused limit eq (Gives steps iterator) old why new

  module _ (left : I → Count) (is_default : S → Type 0) where
    -- a map of all that the iterator gave, made with capacity for some number of pairs that is no more than it may give
    pub record CollectsIter (items : C) (m : State K V S) : Type 0 where
      pub iterator : I
      pub from_items : into items iterator
      pub hint : ℕ
      pub hinted : IsWithinCount hint (left iterator)
      pub gave : List (K × V)
      pub drained : Drains steps iterator gave
      pub collection : Collects limit eq is_default hint gave m

    -- why the items were not collected
    pub record CollectIterRefused (items : C) (why : Refusal) : Type 0 where
      pub iterator : I
      pub from_items : into items iterator
      pub hint : ℕ
      pub hinted : IsWithinCount hint (left iterator)
      pub refused : CollectRefused limit eq is_default hint (Gives steps iterator) why
