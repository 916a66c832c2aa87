-- What is left of a store whose pairs are taken out.
use Rattle.std.specs.Prelude.{◌≡◌, length, Option, IfSome}
use Rattle.std.specs.Global.{Box}
use Rattle.std.specs.List.{zip}
use Rattle.std.specs.VecDeque.{deque_capacity}
use Rattle.std.specs.declared.collections.VecDeque.{VecDeque}
use Rattle.half_store.specs.Capacity.{capacity_of}
use Rattle.half_store.specs.Store.{StoreState, store_of}
use Rattle.half_store.specs.Table.{TableState}

module _ {K V Z : Type 0} (keys : VecDeque K Z) (values : VecDeque V Z) where
  -- the pairs that are still to come, in the form that the store had, with the capacity of the columns
  abbrev pub drained_of : Option (Box TableState) → StoreState K V
  drained_of table = store_of (record { pairs = zip keys.items values.items; capacity = deque_capacity keys }) table

  -- the two queues are of one length and one capacity, which a table that the pairs had has too
  pub record AreEvenQueues (table : Option (Box TableState)) : Type 0 where
    pub length : length values.items ≡ length keys.items
    pub capacity : deque_capacity values ≡ deque_capacity keys
    pub same_capacity : IfSome table (λ t. capacity_of t.value.buckets ≡ deque_capacity keys)
