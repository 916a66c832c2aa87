-- What columns and a store end as, once values of them that were lent to be written come back.
use Rattle.std.specs.Prelude.{ℕ, List}
use Rattle.std.specs.Borrow.{Fml, RattleType, MutBor, Array, Lends}
use Rattle.half_store.specs.Columns.{ColumnsState, columns_with}
use Rattle.half_store.specs.PairLists.{set_value_at, set_values}
use Rattle.half_store.specs.Store.{StoreState, store_with_pairs}
use Rattle.half_store.specs.contracts.store.Store as store
use Rattle.half_store.specs.contracts.vecmap.Columns as columns

module _ (K V : RattleType) (c : MutBor (ColumnsState K.Denot V.Denot)) where
  -- the pair of the columns at this index has the last value written through the reference
  abbrev pub ColumnsLendValue : ℕ → MutBor V.Denot → Fml
  ColumnsLendValue index r = Lends (columns.the_row K V) V c r (λ w. columns_with c.now (set_value_at c.now.pairs index w))

  -- the pairs of the columns have the values that the slice was left with
  abbrev pub ColumnsLendValues : MutBor (List V.Denot) → Fml
  ColumnsLendValues r = Lends (columns.the_row K V) (Array V 0) c r (λ vs. columns_with c.now (set_values c.now.pairs vs))

module _ (K V : RattleType) (s : MutBor (StoreState K.Denot V.Denot)) where
  -- the pair of the store at this index has the last value written through the reference
  abbrev pub StoreLendsValue : ℕ → MutBor V.Denot → Fml
  StoreLendsValue index r = Lends (store.the_row K V) V s r (λ w. store_with_pairs s.now (set_value_at s.now.pairs index w))

  -- the pairs of the store have the values that the slice was left with
  abbrev pub StoreLendsValues : MutBor (List V.Denot) → Fml
  StoreLendsValues r = Lends (store.the_row K V) (Array V 0) s r (λ vs. store_with_pairs s.now (set_values s.now.pairs vs))
