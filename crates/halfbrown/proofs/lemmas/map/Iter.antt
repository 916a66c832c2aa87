-- Pairs whose values are written.
use Rattle.halfbrown.proofs.Common.{◌≡◌, ℕ, ◌<◌, Bool, length, arith, List, [], ◌∷◌, refl, ap, subst, zip, keys_of, values_of, StoreState, state_in}
use Rattle.halfbrown.proofs.Common.{IsMapInvariant, State, map_with_pairs, IsValid}
use Rattle.std.proofs.Common.{◌^◌}
use Rattle.half_store.proofs.lemmas.store.States.{length-set_values}
use Rattle.half_store.specs.PairLists.{set_values}
use Rattle.half_store.specs.Store.{store_with_pairs}
use Rattle.halfbrown.specs.Updates.{WrittenValuesKeepKeys}
use Rattle.halfbrown.proofs.lemmas.map.Layout.{kept_keys, state_of}
use Rattle.std.proofs.iter.runs.Sources.{from_front, as_is}
use Rattle.std.specs.Iterator.Runs.{YieldsMutRefsInOrder}
use Rattle.std.specs.Map.Iter.{TakesFirst, ShowsInOrder, ShowsValuesInOrder, GivesInOrder, LendsFirst, LendsValuesInOrder, deref_pair}
use Rattle.halfbrown.specs.Iter.{pairs_left, IterSteps, ShowsPairsInOrder}
use Rattle.halfbrown.specs.Iter.{values_mut_left, ValuesMutSteps}

module _ {K V : Type 0} where
  -- the columns side by side are the pairs
  pub zip_columns : (ps : List (K × V)) → zip (keys_of ps) (values_of ps) ≡ ps
  zip_columns [] = refl
  zip_columns (p ∷ ps) = ap (λ l. p ∷ l) (zip_columns ps)

  keys_of-set_values : (ps : List (K × V)) (vs : List V) → keys_of (set_values ps vs) ≡ keys_of ps
  keys_of-set_values [] vs = refl
  keys_of-set_values (p ∷ ps) [] = refl
  keys_of-set_values (p ∷ ps) (v ∷ vs) = ap (λ l. p.0 ∷ l) (keys_of-set_values ps vs)

  values_of-set_values : (ps : List (K × V)) (vs : List V) → length vs ≡ length ps → values_of (set_values ps vs) ≡ vs
  values_of-set_values [] [] even = refl
  values_of-set_values [] (v ∷ vs) even = absurd (omega arith)
  values_of-set_values (p ∷ ps) [] even = absurd (omega arith)
  values_of-set_values (p ∷ ps) (v ∷ vs) even = ap (λ l. v ∷ l) (values_of-set_values ps vs (omega arith))

  -- the fields keep what they keep, whatever values are written
  pub kept_written : (eq : K → K → Bool) (hash : K → ℕ) (limit : ℕ) (s : StoreState K V) → IsMapInvariant limit eq hash s → (vs : List V)
      → IsMapInvariant limit eq hash (store_with_pairs s (set_values s.pairs vs))
  kept_written eq hash limit s kept vs =
      kept_keys eq hash limit s (set_values s.pairs vs) kept (keys_of-set_values s.pairs vs) (length-set_values s.pairs vs)

-- a map whose values are lent, from its fields: what it is with each list of values that comes back
module _ {K V S : Type 0} (eq : K → K → Bool) (hash : K → ℕ) (limit : ℕ) (s : StoreState K V) (builder : S) (map : State K V S)
    (is : state_in s builder ≡ map) where
  pub record LentValues : Type 0 where
    pub back : (vs : List V)
        → state_in (store_with_pairs s (set_values s.pairs vs)) builder ≡ map_with_pairs map (set_values map.pairs vs)
    pub pairs : s.pairs ≡ map.pairs
    pub keeps : WrittenValuesKeepKeys limit eq map

  comes_back : (vs : List V)
      → state_in (store_with_pairs s (set_values s.pairs vs)) builder ≡ map_with_pairs map (set_values map.pairs vs)
  comes_back vs = ap (λ m. map_with_pairs m (set_values m.pairs vs)) is

  pub lent_values : IsMapInvariant limit eq hash s → length s.pairs < 2 ^ 63 → LentValues
  lent_values kept small = record {
    back = comes_back;
    pairs = ap (λ m. m.pairs) is;
    keeps = record {
      small = omega (arith, ap (λ m. length m.pairs) is);
      len = length-set_values map.pairs;
      keys = keys_of-set_values map.pairs;
      values = values_of-set_values map.pairs;
      valid = λ vs. subst (IsValid limit eq) (comes_back vs)
          (state_of eq hash limit (store_with_pairs s (set_values s.pairs vs)) builder (kept_written eq hash limit s kept vs));
    };
  }

-- What the runs of each iterator show.

module _ {X : Type 0} where
  pub gives_in_order : GivesInOrder X
  gives_in_order p s = as_is p p.from (from_front (TakesFirst (λ x. x)) (λ x. x) (λ s. s) (λ s t h. ap length h.0) (λ s x t h. h) p s)

module _ {S K V : Type 0} (left : S → List (K × V)) where
  pub lends_values_in_order : LendsValuesInOrder left
  lends_values_in_order =
      from_front (LendsFirst left) (λ x. x.1.now) (λ s. values_of (left s)) (λ s t h. ap (λ l. length (values_of l)) h.0)
      (λ s x t h. ap values_of h)

module _ {K V : Type 0} where
  pub values_lend_in_order : YieldsMutRefsInOrder (ValuesMutSteps {K = K} {V = V}) values_mut_left
  values_lend_in_order = from_front ValuesMutSteps (λ x. x.now) values_mut_left (λ s t h. h.0) (λ s x t h. h)

pub shows_in_order : {A X : Type 0} (shows : A → X) → ShowsInOrder shows
shows_in_order shows = from_front (TakesFirst shows) shows (λ s. s) (λ s t h. ap length h.0) (λ s x t h. h)

pub shows_values_in_order : {A K X : Type 0} (shows : A → K × X) → ShowsValuesInOrder shows
shows_values_in_order shows =
    from_front (TakesFirst shows) (λ x. (shows x).1) values_of (λ s t h. ap (λ l. length (values_of l)) h.0) (λ s x t h. ap values_of h)

module _ (K V : Type 0) where
  pub shows_pairs_in_order : ShowsPairsInOrder K V
  shows_pairs_in_order = record {
    pairs = from_front IterSteps deref_pair pairs_left (λ s t h. ap length h.0) (λ s x t h. h);
    values = from_front IterSteps (λ x. x.1.now) (λ s. values_of (pairs_left s)) (λ s t h. ap (λ l. length (values_of l)) h.0)
        (λ s x t h. ap values_of h);
  }
