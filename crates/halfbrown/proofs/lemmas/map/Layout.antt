-- What the fields of a map keep, from call to call.
use Rattle.halfbrown.proofs.Common.{◌≡◌, ℕ, ◌<◌, ◌≤◌, Bool, true, false, length, arith, suc, cond, List, [], ◌∷◌, ◌++◌, slice_get, Option, Some, refl, ap, ◌∙◌}
use Rattle.halfbrown.proofs.Common.{sym, subst, map, length-append, common_steps, map-append, length-keys_of, IsDistinct-tail, slice_get-map, Bor}
use Rattle.halfbrown.proofs.Common.{IsEquivalence, AllByRecursion, keys_of, option_map, swap_remove_at, set_value_at, length-set_value_at, set_key_at}
use Rattle.halfbrown.proofs.Common.{StoreState, Found, Vacancy, state_in, IsMapInvariant, KeyFoundAt, KeyMissing, holds, IsValid}
use Rattle.std.proofs.Common.{true≢false, Result, Ok, Err, IfErr, OnOk}
use Rattle.std.specs.List.{IsDistinct, AllZip, Contains}
use Rattle.std.proofs.lemmas.Map.Keys.{IsDistinct-push, IsDistinct-head, IsDistinct-cons}
use Rattle.half_store.proofs.lemmas.store.States.{length-set_key_at, kept_value as value_kept, lost_pair}
use Rattle.half_store.specs.Capacity.{IsFormCapacity}
use Rattle.half_store.specs.Columns.{no_pairs}
use Rattle.half_store.specs.Store.{SameFormAndCapacity, store_pushed, store_with_pairs, vector_of}
use Rattle.halfbrown.proofs.lemmas.pairs.Changes.{keys_of-set_key_at, map-set_alike, IsDistinct-set, map-swap_remove_at, length-swap_remove_at}
use Rattle.halfbrown.proofs.lemmas.pairs.Changes.{IsDistinct-swap_remove_at}
use Rattle.halfbrown.proofs.lemmas.pairs.Indices.{none_of_index, absent_of_unheld, index_of_pair}
use Rattle.std.specs.Map.Calls.{RetainsPairs}
use Rattle.halfbrown.specs.Making.{ArePairClones}
use Rattle.std.specs.Result.{result_err}
use Rattle.half_store.specs.ValueReplacement.{pairs_if_kept, ReplacesValue}
use Rattle.halfbrown.proofs.callers.Pairs.{has_removed}

module _ {K V : Type 0} where
  pub keys_of-set_value_at : (ps : List (K × V)) (i : ℕ) (v : V) → keys_of (set_value_at ps i v) ≡ keys_of ps
  keys_of-set_value_at [] i v = refl
  keys_of-set_value_at (p ∷ ps) i v = grind (arith, common_steps, keys_of-set_value_at ps)

  module _ (eq : K → K → Bool) (hash : K → ℕ) (limit : ℕ) where
    -- other pairs in the same form, with their hashes
    pub kept_as : (old new : StoreState K V) → IsMapInvariant limit eq hash old → SameFormAndCapacity old new → IsDistinct eq (keys_of new.pairs)
        → length new.pairs ≤ old.capacity → (old.is_vec ≡ false → new.table.hashes ≡ map hash (keys_of new.pairs))
        → IsMapInvariant limit eq hash new
    kept_as old new kept keeps distinct fits hashed = grind (arith, common_steps)

    -- the same keys
    pub kept_keys : (s : StoreState K V) (ps : List (K × V)) → IsMapInvariant limit eq hash s → keys_of ps ≡ keys_of s.pairs
        → length ps ≡ length s.pairs → IsMapInvariant limit eq hash (store_with_pairs s ps)
    kept_keys s ps kept keys len = grind (arith, common_steps)

    -- a pair has another value
    pub kept_value : (s : StoreState K V) (i : ℕ) (v : V) → IsMapInvariant limit eq hash s
        → IsMapInvariant limit eq hash (store_with_pairs s (set_value_at s.pairs i v))
    kept_value s i v kept =
        kept_keys s (set_value_at s.pairs i v) kept (keys_of-set_value_at s.pairs i v) (length-set_value_at s.pairs i v)

    -- one more pair, whose key is not held
    pub kept_pushed : IsEquivalence eq → (s : StoreState K V) (k : K) (v : V) (vacancy : Vacancy) → IsMapInvariant limit eq hash s
        → KeyMissing (eq k) s.pairs → length s.pairs < s.capacity
        → (s.is_vec ≡ false → vacancy.hash ≡ hash k) → IsMapInvariant limit eq hash (store_pushed s k v vacancy)
    kept_pushed laws s k v vacancy kept absent room own = grind (arith, common_steps, IsDistinct-push, kept_as, length-append, map, map-append, none_of_index)

    -- a pair has another key, equal to its own and of the same hash
    pub kept_key : IsEquivalence eq → (s : StoreState K V) (i : ℕ) (old new : K) → IsMapInvariant limit eq hash s
        → slice_get (keys_of s.pairs) i ≡ Some old → eq old new ≡ true → hash old ≡ hash new
        → IsMapInvariant limit eq hash (store_with_pairs s (set_key_at s.pairs i new))
    kept_key laws s i old new kept at same alike = grind (arith, common_steps, IsDistinct-set, kept_as, keys_of-set_key_at, length-set_key_at, map, map-set_alike)

    -- a pair is gone, the last one at its index
    pub kept_taken : IsEquivalence eq → (old new : StoreState K V) (i : ℕ) → IsMapInvariant limit eq hash old → SameFormAndCapacity old new
        → i < length old.pairs
        → new.pairs ≡ swap_remove_at old.pairs i → (old.is_vec ≡ false → new.table.hashes ≡ swap_remove_at old.table.hashes i)
        → IsMapInvariant limit eq hash new
    kept_taken laws old new i kept keeps within pairs hashes = grind (arith, common_steps, IsDistinct-swap_remove_at, kept_as, length-keys_of, length-swap_remove_at, map, map-swap_remove_at)

    -- no pairs
    pub kept_none : (old new : StoreState K V) → IsMapInvariant limit eq hash old → SameFormAndCapacity old new → new.pairs ≡ [] → new.table.hashes ≡ []
        → IsMapInvariant limit eq hash new
    unfolding IsDistinct
    kept_none old new kept keeps none no_hashes = grind (arith, common_steps)

    -- a new store
    pub kept_made : (s : StoreState K V) → s.pairs ≡ [] → s.table.hashes ≡ [] → IsFormCapacity limit s.is_vec s.capacity
        → IsMapInvariant limit eq hash s
    unfolding IsDistinct
    kept_made s none no_hashes allowed = grind (arith, common_steps)

    -- a vector without memory
    pub kept_empty : (s : StoreState K V) → s ≡ vector_of no_pairs → IsMapInvariant limit eq hash s
    unfolding IsDistinct
    kept_empty s is = grind (arith, common_steps)

    -- what the fields keep is what holds of the state
    pub state_of : {S : Type 0} (s : StoreState K V) (builder : S) → IsMapInvariant limit eq hash s → IsValid limit eq (state_in s builder)
    state_of s builder kept = grind (arith, common_steps)

module _ {F K V : Type 0} (T : F → K → V → Bool → V → F → Type 0) where
  all_retained : (P : K → Type 0) (f : F) (ps kept : List (K × V)) → RetainsPairs T f ps kept → AllByRecursion P (keys_of ps)
      → AllByRecursion P (keys_of kept)
  all_retained P f [] kept r all = subst (λ qs. AllByRecursion P (keys_of qs)) (sym r) tt
  all_retained P f (p ∷ ps) kept r all = grind (arith, common_steps, all_retained P r.2 ps r.3 r.5 all.1)

  -- distinct keys stay distinct
  pub IsDistinct-retained : (eq : K → K → Bool) (f : F) (ps kept : List (K × V)) → RetainsPairs T f ps kept → IsDistinct eq (keys_of ps)
      → IsDistinct eq (keys_of kept)
  IsDistinct-retained eq f [] kept r distinct = subst (λ qs. IsDistinct eq (keys_of qs)) (sym r) distinct
  IsDistinct-retained eq f (p ∷ ps) kept r distinct =
      let rest = IsDistinct-retained eq r.2 ps r.3 r.5 (IsDistinct-tail eq p.0 (keys_of ps) distinct) in
      let apart = all_retained (λ k. eq p.0 k ≡ false) r.2 ps r.3 r.5 (IsDistinct-head eq p.0 (keys_of ps) distinct) in
      grind (arith, common_steps, IsDistinct-cons eq p.0 (keys_of r.3) apart rest, rest)

-- clones of pairs are clones of their keys
pub keys_zip : {K V : Type 0} (R : K → K → Type 0) (Q : V → V → Type 0) (ps qs : List (K × V)) → ArePairClones R Q ps qs
    → AllZip R (keys_of ps) (keys_of qs)
keys_zip R Q [] [] zip = tt
keys_zip R Q [] (q ∷ qs) zip = absurd zip
keys_zip R Q (p ∷ ps) [] zip = absurd zip
keys_zip R Q (p ∷ ps) (q ∷ qs) zip = (zip.0.0, keys_zip R Q ps qs zip.1)

-- what is known of the elements of the first list only
pub zip_held : {A B : Type 0} (R Q : A → B → Type 0) (xs : List A) (ys : List B) → ((x : A) (y : B) → Contains xs x → R x y → Q x y)
    → AllZip R xs ys → AllZip Q xs ys
zip_held R Q [] [] told zip = tt
zip_held R Q [] (y ∷ ys) told zip = absurd zip
zip_held R Q (x ∷ xs) [] told zip = absurd zip
zip_held R Q (x ∷ xs) (y ∷ ys) told zip =
    (told x y (0, omega arith, refl) zip.0, zip_held R Q xs ys (λ z w held. told z w (suc held.0, omega (arith, held.1), held.2)) zip.1)

pub map-zip : {A : Type 0} (f g : A → ℕ) (xs ys : List A) → AllZip (λ x y. g y ≡ f x) xs ys → map g ys ≡ map f xs
map-zip f g [] [] zip = refl
map-zip f g [] (y ∷ ys) zip = absurd zip
map-zip f g (x ∷ xs) [] zip = absurd zip
map-zip f g (x ∷ xs) (y ∷ ys) zip = λ i. zip.0 i ∷ map-zip f g xs ys zip.1 i

module _ {K : Type 0} (eq : K → K → Bool) (laws : IsEquivalence eq) where
  all_apart : (k l : K) (ks ls : List K) → eq k l ≡ true → AllZip (λ x y. eq x y ≡ true) ks ls → AllByRecursion (λ y. eq k y ≡ false) ks
      → AllByRecursion (λ y. eq l y ≡ false) ls
  all_apart k l [] [] same zip all = tt
  all_apart k l [] (y ∷ ls) same zip all = absurd zip
  all_apart k l (x ∷ ks) [] same zip all = absurd zip
  all_apart k l (x ∷ ks) (y ∷ ls) same zip all = grind (arith, common_steps, all_apart k l ks ls same zip.1 all.1)

  -- distinct keys stay distinct if each is replaced by its equal
  pub IsDistinct-zip : (ks ls : List K) → AllZip (λ x y. eq x y ≡ true) ks ls → IsDistinct eq ks → IsDistinct eq ls
  unfolding IsDistinct
  IsDistinct-zip [] [] zip distinct = tt
  IsDistinct-zip [] (l ∷ ls) zip distinct = absurd zip
  IsDistinct-zip (k ∷ ks) [] zip distinct = absurd zip
  IsDistinct-zip (k ∷ ks) (l ∷ ls) zip distinct = (all_apart k l ks ls zip.0 zip.1 distinct.0, IsDistinct-zip ks ls zip.1 distinct.1)

  -- the fields of a clone
  pub kept_cloned : {V : Type 0} (hash also_hash : K → ℕ) (limit : ℕ) (old new : StoreState K V) → IsMapInvariant limit eq hash old
      → new.is_vec ≡ old.is_vec → length new.pairs ≡ length old.pairs
      → AllZip (λ x y. eq x y ≡ true) (keys_of old.pairs) (keys_of new.pairs)
      → (old.is_vec ≡ false → map also_hash (keys_of new.pairs) ≡ map hash (keys_of old.pairs))
      → new.capacity ≡ cond old.is_vec (length old.pairs) old.capacity → new.table.hashes ≡ old.table.hashes → IsMapInvariant limit eq also_hash new
  kept_cloned hash also_hash limit old new kept form len alike hashed capacity hashes =
      let distinct = IsDistinct-zip (keys_of old.pairs) (keys_of new.pairs) alike kept.distinct in
      grind (arith, common_steps)

module _ {K V : Type 0} where
  -- the stored hash of a pair is that of its key
  pub hash_at : (hash : K → ℕ) (ps : List (K × V)) (i : ℕ) (k : K) (v : V) → slice_get ps i ≡ Some (k, v)
      → slice_get (map hash (keys_of ps)) i ≡ Some (hash k)
  hash_at hash ps i k v at = grind (arith, common_steps, slice_get-map hash (keys_of ps) i, slice_get-map (λ (p : K × V). p.0) ps i)

  -- a stored key is at its own index, and if its pair is gone no equal one is held
  pub own_index : (eq : K → K → Bool) → IsEquivalence eq → (ps : List (K × V)) → IsDistinct eq (keys_of ps) → (i : ℕ) (k : K) (v : V)
      → slice_get ps i ≡ Some (k, v) → KeyFoundAt (eq k) ps i
  own_index eq laws ps distinct i k v at = index_of_pair eq laws ps i (k, v) distinct at

  pub unheld_after : (eq : K → K → Bool) → IsEquivalence eq → (ps : List (K × V)) → IsDistinct eq (keys_of ps) → (i : ℕ) (k : K) (v : V)
      → slice_get ps i ≡ Some (k, v) → holds eq (swap_remove_at ps i) k ≡ false
  unheld_after eq laws ps distinct i k v at =
      grind (arith, common_steps, own_index eq laws ps distinct i k v at, has_removed eq laws ps distinct k)

module _ {K V : Type 0} (eq : K → K → Bool) (laws : IsEquivalence eq) (hash : K → ℕ) (limit : ℕ)
    (old new : StoreState K V) (index : ℕ) (kept : IsMapInvariant limit eq hash old)
    (keeps : SameFormAndCapacity old new) where
  -- a pair that goes last
  moved_distinct : old.is_vec ≡ true → index < length old.pairs → (k : K) (v w : V) → slice_get old.pairs index ≡ Some (k, v)
      → IsDistinct eq (keys_of (swap_remove_at old.pairs index ++ (k, w) ∷ []))
  moved_distinct vector within k v w at =
      let left : StoreState K V = store_with_pairs old (swap_remove_at old.pairs index) in
      let shorter = length-swap_remove_at old.pairs index (omega (arith, within)) in
      let taken = kept_taken eq hash limit laws old left index kept (record { form = refl; capacity = refl }) within refl
      (λ table. absurd (true≢false (sym vector ∙ table))) in
      (kept_pushed eq hash limit laws left k w (record { hash = hash k; bucket = 0 }) taken
      (absent_of_unheld (eq k) left.pairs (unheld_after eq laws old.pairs kept.distinct index k v at)) (omega (arith, shorter, kept.fits))
      (λ table. refl)).distinct

  kept_moved : (is_vec : Bool) → old.is_vec ≡ is_vec → index < length old.pairs → (k : K) (v w : V) → slice_get old.pairs index ≡ Some (k, v)
      → new.pairs ≡ pairs_if_kept is_vec old.pairs index k w → new.table.hashes ≡ old.table.hashes → IsMapInvariant limit eq hash new
  kept_moved true vector within k v w at is stays =
      let shorter = length-swap_remove_at old.pairs index (omega (arith, within)) in
      kept_as eq hash limit old new kept keeps (subst (λ ps. IsDistinct eq (keys_of ps)) (sym is) (moved_distinct vector within k v w at))
      (omega (arith, ap length is, shorter, length-append (swap_remove_at old.pairs index) ((k, w) ∷ []), kept.fits))
      (λ table. absurd (true≢false (sym vector ∙ table)))
  kept_moved false table within k v w at is stays = grind (arith, common_steps, kept_as, keys_of-set_value_at, length-set_value_at, map)

  -- the fields once the closure has answered
  pub kept_replaced : {returns : Bor K → V → Option V → Type 0} → index < length old.pairs → (result : Result Found (K × ℕ))
      → ReplacesValue returns old.is_vec old.pairs index new.pairs (option_map (λ removed. removed.0) (result_err result))
      → IfErr result (λ _. old.is_vec ≡ false → new.table.hashes ≡ swap_remove_at old.table.hashes index) → OnOk result (new.table.hashes ≡ old.table.hashes)
      → IsMapInvariant limit eq hash new
  kept_replaced within (Ok at) r lost stays =
      let kept = value_kept r in kept_moved old.is_vec refl within r.key r.value kept.0 r.pair kept.2 stays
  kept_replaced within (Err removed) r lost stays = kept_taken eq hash limit laws old new index kept keeps within (lost_pair r).1 lost

  -- the hash that comes back with a key is its own
  pub own_hash : {returns : Bor K → V → Option V → Type 0} → (result : Result Found (K × ℕ)) → ReplacesValue returns old.is_vec old.pairs index new.pairs (option_map (λ removed. removed.0) (result_err result))
      → IfErr result (λ removed. old.is_vec ≡ false → slice_get old.table.hashes index ≡ Some removed.1)
      → IfErr result (λ removed. new.is_vec ≡ false → removed.1 ≡ hash removed.0)
  own_hash (Ok i) r at = tt
  own_hash (Err removed) r at = grind (arith, common_steps, hash_at hash old.pairs index r.key r.value r.pair, lost_pair r)

  -- no equal key is held any more
  pub absent_replaced : {returns : Bor K → V → Option V → Type 0} → (result : Result Found (K × ℕ)) → ReplacesValue returns old.is_vec old.pairs index new.pairs (option_map (λ removed. removed.0) (result_err result))
      → IfErr result (λ removed. holds eq new.pairs removed.0 ≡ false)
  absent_replaced result r = grind (arith, common_steps, lost_pair, unheld_after)
