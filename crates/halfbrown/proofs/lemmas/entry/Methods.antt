-- What an entry is, of a key or a raw one, what is written, put and removed through it, and what it is after a closure had its value.
use Rattle.halfbrown.specs.Pairs.{IsQuery}
use Rattle.halfbrown.proofs.Common.{◌≡◌, ℕ, ◌<◌, Bool, true, false, length, arith, List, [], ◌∷◌, ◌++◌, take, slice_get, Option, Some, refl, ap, ◌∙◌, None, sym}
use Rattle.halfbrown.proofs.Common.{subst, ◌-◌, IfSome, length-append, common_steps, Bor, IsEquivalence, IsDistinct, keys_of, values_of, option_map}
use Rattle.halfbrown.proofs.Common.{swap_remove_at, set_value_at, length-set_value_at, set_key_at, Vacancy, with_entry_value, occupied, entry_value, IsWritten}
use Rattle.halfbrown.proofs.Common.{capacity_for_insert, Prepares, KeyFoundAt, KeyMissing, swap_out_by, State, IsPlacedIn, map_with_pairs, WithPairs, HasRemovedBy}
use Rattle.std.proofs.Common.{set, MatchOption, true≢false}
use Rattle.std.proofs.lemmas.Map.Entries.{length-values_of}
use Rattle.std.specs.Borrow.{MutBor}
use Rattle.std.specs.Coded.{le_prop}
use Rattle.halfbrown.specs.declared.entry.OccupiedEntry.{OccupiedEntry}
use Rattle.halfbrown.specs.EntryView.{EntryView, pairs_with_value, map_with_value}
use Rattle.halfbrown.specs.EntryView.{IsEntryOf, PutsThroughEntry, IsRawEntryOf, ModifiesEntry, HasEntryKeyReplaced}
use Rattle.halfbrown.proofs.callers.Pairs.{has_put, has_removed_by}
use Rattle.half_store.proofs.lemmas.store.States.{kept_value, lost_pair}
use Rattle.halfbrown.proofs.lemmas.map.Find.{placed-prop}
use Rattle.halfbrown.proofs.lemmas.map.Layout.{keys_of-set_value_at}
use Rattle.halfbrown.proofs.lemmas.pairs.Indices.{first_of_index, some_is_not_none}
use Rattle.halfbrown.proofs.lemmas.pairs.SetBy.{has_put_by, has_set_by, passes_at}
use Rattle.halfbrown.proofs.lemmas.pairs.Changes.{values_of-set_key_at, key-set_key_at, swap_remove_at-set_key_at, key_of-pair, set_value_at-twice}
use Rattle.halfbrown.proofs.lemmas.pairs.Changes.{value-set_value_at, swap_remove_at-set_value_at, set_value_at-last, value-last, pair-last}
use Rattle.halfbrown.proofs.lemmas.pairs.Changes.{length-swap_remove_at}
use Rattle.half_store.specs.ValueReplacement.{index_after_replacing, pairs_if_kept, ReplacesValue}
use Rattle.halfbrown.specs.Replacement.{ReplacesEntry, IsReplaced, IsVacated}
use Rattle.halfbrown.specs.Ghosts.{EqGhosts, HashGhosts, HasherGhosts, LimitGhosts}

module _ {K V S : Type 0} (eq : K → K → Bool) (laws : IsEquivalence eq) (m : MutBor (State K V S)) (distinct : IsDistinct eq (keys_of m.now.pairs)) where
  module _ (test : K → Bool) (one_class : IsQuery eq test) where
    removed : HasRemovedBy eq test m.now.pairs (swap_out_by test m.now.pairs)
    removed = has_removed_by eq laws test one_class m.now.pairs distinct

    -- the key that passes is held at this index
    module _ (index : ℕ) (at : KeyFoundAt test m.now.pairs index) where
      pub found_entry : IsEntryOf eq test m.now.pairs (record { map = m; index = Some index; vacant = None })
      found_entry =
          let passes = passes_at eq laws test one_class (keys_of m.now.pairs) index (first_of_index test (keys_of m.now.pairs) index at.index_is) in
          grind (arith, common_steps, key_of-pair, at.take_is, removed, passes)

      pub found_raw : IsRawEntryOf eq test m.now (record { map = m; index = Some index; vacant = None })
      unfolding map_with_value
      found_raw = record {
        map = refl;
        entry = found_entry;
        puts = λ k v. sym (at.put_is k v);
        put = λ k v. has_put_by eq laws test one_class m.now.pairs (set_value_at m.now.pairs index v) k v (sym (at.put_is k v));
        writes = λ occupied v. record { pairs = sym (at.set_is v); form = refl; capacity = refl; builder = refl };
        written = λ occupied v. has_set_by eq laws test one_class m.now.pairs index v at;
      }

    -- no key that passes is held; the key that the entry was made for, if any, passes
    module _ (absent : KeyMissing test m.now.pairs) where
      pub missing_entry : (new : Option (K × Vacancy)) → IfSome (option_map (λ (n : K × Vacancy). n.0) new) (λ k. test k ≡ true)
          → IsEntryOf eq test m.now.pairs (record { map = m; index = None; vacant = new })
      missing_entry new passes = grind (arith, common_steps, absent.take_is, removed, passes)

      pub missing_raw : IsRawEntryOf eq test m.now (record { map = m; index = None; vacant = None })
      missing_raw = record {
        map = refl;
        entry = missing_entry None tt;
        puts = λ k v. sym (absent.put_is k v);
        put = λ k v. has_put_by eq laws test one_class m.now.pairs (m.now.pairs ++ (k, v) ∷ []) k v (sym (absent.put_is k v));
        writes = λ occupied. absurd (true≢false (sym occupied));
        written = λ occupied. absurd (true≢false (sym occupied));
      }

module _ {K V S : Type 0} (limit : ℕ) (eq : K → K → Bool) (laws : IsEquivalence eq) (old : State K V S) (k : K) (m : MutBor (State K V S))
    (prepared : Prepares limit old (capacity_for_insert limit eq old k) m.now) (distinct : IsDistinct eq (keys_of m.now.pairs)) where
  -- the entry of a held key, and what is written through it
  module _ (index : ℕ) (at : KeyFoundAt (eq k) m.now.pairs index) where
    pub found_key : IsEntryOf eq (eq k) old.pairs (record { map = m; index = Some index; vacant = None })
    found_key = subst (λ pairs. IsEntryOf eq (eq k) pairs (record { map = m; index = Some index; vacant = None })) prepared.pairs
        (found_entry eq laws m distinct (eq k) (laws.congr k) index at)

    pub found_writes : PutsThroughEntry limit eq old k (record { map = m; index = Some index; vacant = None })
    unfolding map_with_value
    found_writes = record {
      puts = λ v. grind (arith, common_steps, at.put_is k v);
      put = λ v. grind (arith, common_steps, at.put_is k v, has_put eq laws old.pairs k v);
    }

  -- of one that is not held
  module _ (vacancy : Vacancy) (absent : KeyMissing (eq k) m.now.pairs) where
    pub missing_key : IsEntryOf eq (eq k) old.pairs (record { map = m; index = None; vacant = Some (k, vacancy) })
    missing_key = subst (λ pairs. IsEntryOf eq (eq k) pairs (record { map = m; index = None; vacant = Some (k, vacancy) })) prepared.pairs
        (missing_entry eq laws m distinct (eq k) (laws.congr k) absent (Some (k, vacancy)) (laws.refl k))

    pub missing_writes : PutsThroughEntry limit eq old k (record { map = m; index = None; vacant = Some (k, vacancy) })
    unfolding map_with_value
    missing_writes = record {
      puts = λ v. grind (arith, common_steps, absent.put_is k v);
      put = λ v. grind (arith, common_steps, absent.put_is k v, has_put eq laws old.pairs k v);
    }

module _ {K V S L H : Type 0} {e : EqGhosts K} {h : HashGhosts K} {b : HasherGhosts S K H} {l : LimitGhosts L}
    (o : OccupiedEntry K V S L H e h b l) where
  -- the entry with this value, however it was shown that its index is within
  pub lent_entry : (value : V) (within : o.index < length (set_value_at o.map.now.pairs o.index value))
      (placed : IsPlacedIn o.map.now (record { index = o.index; bucket = o.bucket }))
      → record {
        map = record o.map { now = map_with_pairs o.map.now (set_value_at o.map.now.pairs o.index value) };
        index = o.index;
        bucket = o.bucket;
        within = within;
        placed = placed;
      } ≡ with_entry_value o value
  unfolding map_with_value
  lent_entry value within placed =
      λ i. record {
        map = record o.map { now = map_with_pairs o.map.now (set_value_at o.map.now.pairs o.index value) };
        index = o.index;
        bucket = o.bucket;
        within = le_prop within (with_entry_value o value).within i;
        placed = placed-prop o.map.now _ placed (with_entry_value o value).placed i;
      }

  -- the entry with this value is the same one, written
  pub written_entry : (value : V) → IsWritten (occupied o) value (occupied (with_entry_value o value))
  unfolding map_with_value
  written_entry value = record {
    same_map = refl;
    map = refl;
    value_is = value-set_value_at o.map.now.pairs o.index value o.within;
    key = ap (λ ks. slice_get ks o.index) (keys_of-set_value_at o.map.now.pairs o.index value);
    writes = λ v. ap (map_with_pairs o.map.now) (set_value_at-twice o.map.now.pairs o.index value v);
    without = swap_remove_at-set_value_at o.map.now.pairs o.index value;
  }

  -- the pair has a value
  held_value : entry_value (occupied o) ≡ None → ⊥
  held_value none = some_is_not_none (values_of o.map.now.pairs) o.index (omega (arith, length-values_of o.map.now.pairs, o.within)) none

  -- of the map with this value only the pairs are new
  pub held_with_pairs : (key : K) (value : V) → WithPairs o.map.now (pairs_with_value (occupied o) key value) (map_with_value (occupied o) value)
  unfolding map_with_value
  held_with_pairs key value = record { pairs = refl; form = refl; capacity = refl; builder = refl }

  -- a value that is written again
  held_twice : (key : K) (value again : V) → pairs_with_value (occupied (with_entry_value o value)) key again ≡ pairs_with_value (occupied o) key again
  unfolding map_with_value
  held_twice key value again = set_value_at-twice o.map.now.pairs o.index value again

  -- a closure had the pair, and left this value
  pub modified_entry : (modifies : Option V → Type 0) (left : V) → modifies (Some left)
      → ModifiesEntry modifies (occupied o) (occupied (with_entry_value o left))
  modified_entry modifies left holds =
      let written = written_entry left in
      let at : (P : Option V → Type 0) → P (Some left) → P (entry_value (occupied (with_entry_value o left))) = λ P. subst P (sym written.value_is) in
      record {
        value = at modifies holds;
        occupied = at (λ v. IfSome v (λ value. map_with_value (occupied o) left ≡ map_with_value (occupied o) value)) refl;
        pairs = λ key. at (λ v. IfSome v (λ value. WithPairs o.map.now (pairs_with_value (occupied o) key value) (map_with_value (occupied o) left)))
            (held_with_pairs key left);
        vacant = λ none. absurd (held_value none);
        same = record {
          same_map = refl;
          found = refl;
          key = written.key;
          writes = written.writes;
          puts = λ key value. held_twice key left value;
          without = written.without;
        };
      }

  -- the entry if its map has the pairs with another key
  pub rekeyed_entry : (key : K) (map : MutBor (State K V S)) → map.ghost_name ≡ o.map.ghost_name
      → map.now ≡ map_with_pairs o.map.now (set_key_at o.map.now.pairs o.index key)
      → HasEntryKeyReplaced (occupied o) key (record { map = map; index = Some o.index; vacant = None })
  rekeyed_entry key map same after = grind (arith, common_steps, o.within, key-set_key_at, slice_get, swap_remove_at-set_key_at, values_of-set_key_at)

front_of : {X : Type 0} (xs : List X) (x y : X) (n : ℕ) → n ≡ length xs → take n (set (xs ++ x ∷ []) (length xs) y) ≡ xs
front_of xs x y n is = grind (arith, common_steps)

-- the last element that is taken out leaves the others as they are
pub swap_remove_at-last : {X : Type 0} (xs : List X) (x : X) → swap_remove_at (xs ++ x ∷ []) (length xs) ≡ xs
swap_remove_at-last [] x = front_of [] x x (length (x ∷ []) - 1) (omega arith)
swap_remove_at-last (y ∷ ys) x = front_of (y ∷ ys) x _ (length (y ∷ ys ++ x ∷ []) - 1) (omega (arith, length-append ys (x ∷ [])))

module _ {K V : Type 0} where
  pair-set_value_at : (ps : List (K × V)) (i : ℕ) (k : K) (u v : V) → slice_get ps i ≡ Some (k, u)
      → slice_get (set_value_at ps i v) i ≡ Some (k, v)
  pair-set_value_at [] i k u v at = absurd cc
  pair-set_value_at (p ∷ ps) i k u v at = grind (arith, common_steps, pair-set_value_at ps)

  -- among these pairs the key has this value at this index: what another value, or a removal, would leave is what they would have left before
  record IsKeptAt (is_vec : Bool) (ps : List (K × V)) (i : ℕ) (k : K) (v : V) (qs : List (K × V)) (j : ℕ) : Type 0 where
    within : j < length qs
    pair : slice_get qs j ≡ Some (k, v)
    value : slice_get (values_of qs) j ≡ Some v
    writes : (u : V) → set_value_at qs j u ≡ pairs_if_kept is_vec ps i k u
    left : swap_remove_at qs j ≡ swap_remove_at ps i

  kept_at : (is_vec : Bool) (ps : List (K × V)) (i : ℕ) (k : K) (u v : V) → slice_get ps i ≡ Some (k, u) → i < length ps
      → IsKeptAt is_vec ps i k v (pairs_if_kept is_vec ps i k v) (index_after_replacing is_vec ps i)
  kept_at true ps i k u v at within =
      let front = swap_remove_at ps i in
      let end : length ps - 1 ≡ length front = omega (arith, length-swap_remove_at ps i (omega (arith, within))) in
      grind (
        arith,
        common_steps,
        end,
        length-append,
        pair-last front,
        set_value_at-last front,
        swap_remove_at-last front,
        value-last front,
      )
  kept_at false ps i k u v at within = record {
    within = omega (arith, within, length-set_value_at ps i v);
    pair = pair-set_value_at ps i k u v at;
    value = value-set_value_at ps i v within;
    writes = set_value_at-twice ps i v;
    left = swap_remove_at-set_value_at ps i v;
  }

  module _ {returns : Bor K → V → Option V → Type 0} {is_vec : Bool} {ps qs : List (K × V)} {i j : ℕ} (within : i < length ps)
      (r : ReplacesValue returns is_vec ps i qs None) (at : j ≡ index_after_replacing is_vec ps i) where
    -- the pair whose value was replaced
    kept_there : IsKeptAt is_vec ps i r.key (kept_value r).0 qs j
    kept_there =
        let kept = kept_value r in
        subst (λ (q : List (K × V) × ℕ). IsKeptAt is_vec ps i r.key kept.0 q.0 q.1) (λ n. (sym kept.2 n, sym at n))
        (kept_at is_vec ps i r.key r.value kept.0 r.pair within)

    pub kept_within : j < length qs
    kept_within = kept_there.within

module _ {K V S L H : Type 0} {e : EqGhosts K} {h : HashGhosts K} {b : HasherGhosts S K H} {l : LimitGhosts L}
    {returns : Bor K → V → Option V → Type 0} (o : OccupiedEntry K V S L H e h b l) where
  replaced_entry : {ps : List (K × V)} {gone : Option K} (r : ReplacesValue returns o.map.now.is_vec o.map.now.pairs o.index ps gone)
      (result : EntryView K V S) (answer : Option V) → r.answer ≡ answer
      → MatchOption answer (IsVacated (occupied o) r.key result) (λ v. IsReplaced (occupied o) r.key v result) → ReplacesEntry returns (occupied o) result
  replaced_entry r result answer is after = record {
    key = r.key;
    value = r.value;
    answer = r.answer;
    pair = r.pair;
    answered = r.answered;
    after = subst (λ a. MatchOption a (IsVacated (occupied o) r.key result) (λ v. IsReplaced (occupied o) r.key v result)) (sym is) after;
  }

  -- the pair is gone
  pub loses_pair : (map : MutBor (State K V S)) (key : K) (vacancy : Vacancy)
      → ReplacesValue returns o.map.now.is_vec o.map.now.pairs o.index map.now.pairs (Some key) → WithPairs o.map.now map.now.pairs map.now
      → ReplacesEntry returns (occupied o) (record { map = map; index = None; vacant = Some (key, vacancy) })
  unfolding map_with_value
  loses_pair map key vacancy r after =
      let lost = lost_pair r in
      replaced_entry r _ None lost.0 (record {
        key_is = ap Some (sym lost.2);
        no_value = refl;
        map = record { pairs = lost.1; form = after.form; capacity = after.capacity; builder = after.builder };
        writes = λ value. record {
          pairs = λ j. lost.1 j ++ (sym lost.2 j, value) ∷ [];
          form = after.form;
          capacity = after.capacity;
          builder = after.builder;
        };
        without = lost.1;
      })

  -- the pair has another value
  pub keeps_pair : (map : MutBor (State K V S)) (index : ℕ) → ReplacesValue returns o.map.now.is_vec o.map.now.pairs o.index map.now.pairs None
      → index ≡ index_after_replacing o.map.now.is_vec o.map.now.pairs o.index → WithPairs o.map.now map.now.pairs map.now
      → ReplacesEntry returns (occupied o) (record { map = map; index = Some index; vacant = None })
  unfolding map_with_value
  keeps_pair map index r at after =
      let kept = kept_value r in
      let there = kept_there o.within r at in
      replaced_entry r _ (Some kept.0) kept.1 (record {
        pair = there.pair;
        key_is = key_of-pair map.now.pairs index ∙ ap (option_map (λ (q : K × V). q.0)) there.pair;
        value_is = there.value;
        map = record { pairs = kept.2; form = after.form; capacity = after.capacity; builder = after.builder };
        writes = λ u. record { pairs = there.writes u; form = after.form; capacity = after.capacity; builder = after.builder };
        without = there.left;
      })
