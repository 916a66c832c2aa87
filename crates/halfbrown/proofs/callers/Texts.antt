-- Pairs under what is read of their keys, as texts under their bytes: a look-up, a put, a set value and a removal there.
use Rattle.halfbrown.proofs.Common.{◌≡◌, ℕ, ◌+◌, ◌<◌, ◌≤◌, Bool, true, false, length, arith, cond, List, [], ◌∷◌, take, get_or, Option, Some, unwrap_or, refl}
use Rattle.halfbrown.proofs.Common.{ap, ◌∙◌, sym, subst, map, common_steps, map-append, take_more, IsEquivalence, AllByRecursion, keys_of, values_of, lookup, option_map}
use Rattle.halfbrown.proofs.Common.{index_of, value_of, put, set_value, swap_out_by, SwapRemoves, State, HasPut}
use Rattle.std.proofs.Common.{String, sum}
use Rattle.std.specs.Cmp.Lexicographic.{nat_list_eq_equiv}
use Rattle.std.specs.List.{IsDistinct, filter}
use Rattle.std.specs.Str.{bytes_eq}
use Rattle.std.specs.String.{string_bytes, string_eq}
use Rattle.std.proofs.Math.ListN.{length-map}
use Rattle.halfbrown.specs.Insertion.{Puts}
use Rattle.halfbrown.specs.Making.{ArePairClones, ClonesAreCopies, IsCloneOf}
use Rattle.halfbrown.specs.Updates.{HasRemoved}
use Rattle.halfbrown.proofs.callers.Pairs.{has_put, has_removed}
use Rattle.halfbrown.proofs.lemmas.pairs.Changes.{map-swap_remove_at}
use Rattle.halfbrown.specs.ByKey.{CountsEach, SumsEach, keyed_by}
use Rattle.halfbrown.proofs.callers.Keys.{count_fits, counted_more, summed_more, sum_within, lookup_set}

module _ {K B V : Type 0} (read : K → B) (test : B → Bool) where
  -- what a test of what is read finds
  pub lookup-keyed_by : (ps : List (K × V)) → lookup test (keyed_by read ps) ≡ lookup (λ k. test (read k)) ps
  lookup-keyed_by [] = refl
  lookup-keyed_by (p ∷ ps) = ap (cond (test (read p.0)) (Some p.1)) (lookup-keyed_by ps)

  pub keyed_by-set : (ps : List (K × V)) (v : V) → keyed_by read (set_value (λ k. test (read k)) ps v) ≡ set_value test (keyed_by read ps) v
  keyed_by-set [] v = refl
  keyed_by-set (p ∷ ps) v = grind (arith, common_steps, keyed_by-set ps v)

  index_read : (ps : List (K × V)) → index_of test (keys_of (keyed_by read ps)) ≡ index_of (λ k. test (read k)) (keys_of ps)
  index_read [] = refl
  index_read (p ∷ ps) = grind (arith, common_steps, index_read ps)

  pub keyed_by-swap_out : (ps : List (K × V)) → keyed_by read (swap_out_by (λ k. test (read k)) ps) ≡ swap_out_by test (keyed_by read ps)
  keyed_by-swap_out ps = grind (arith, common_steps, index_read ps, map-swap_remove_at {A = K × V} {B = B × V} (λ p. (read p.0, p.1)) ps)

module _ {K B V : Type 0} (read : K → B) (same : B → B → Bool) where
  -- a put, if keys are equal exactly if what is read of them is
  pub keyed_by-put : (ps : List (K × V)) (k : K) (v : V)
      → keyed_by read (put (λ x y. same (read x) (read y)) ps k v) ≡ put same (keyed_by read ps) (read k) v
  keyed_by-put ps k v =
      grind (arith, common_steps, keyed_by-set read (same (read k)) ps v, lookup-keyed_by read (same (read k)) ps, map-append)

  apart_read : (k : K) (ps : List (K × V)) → AllByRecursion (λ x. same (read k) (read x) ≡ false) (keys_of ps)
      → AllByRecursion (λ b. same (read k) b ≡ false) (keys_of (keyed_by read ps))
  apart_read k [] apart = apart
  apart_read k (p ∷ ps) apart = (apart.0, apart_read k ps apart.1)

  -- what is read of distinct keys is distinct
  pub keyed_by-distinct : (ps : List (K × V)) → IsDistinct (λ x y. same (read x) (read y)) (keys_of ps)
      → IsDistinct same (keys_of (keyed_by read ps))
  unfolding IsDistinct
  keyed_by-distinct [] distinct = distinct
  keyed_by-distinct (p ∷ ps) distinct = (apart_read p.0 ps distinct.0, keyed_by-distinct ps distinct.1)

module _ {K B : Type 0} (read : K → B) {same : B → B → Bool} (laws : IsEquivalence same) where
  -- what a put leaves for what is read of every key
  pub has_put_read : {V S : Type 0} {limit : ℕ} {old new : State K V S} {k : K} {v : V} {needs : Option ℕ}
      → Puts limit (λ x y. same (read x) (read y)) old k v needs new
      → HasPut same (keyed_by read old.pairs) (read k) v (keyed_by read new.pairs)
  has_put_read {old = old} {new = new} {k = k} {v = v} puts =
      subst (HasPut same (keyed_by read old.pairs) (read k) v)
      (sym (ap (keyed_by read) puts.pairs ∙ keyed_by-put read same old.pairs k v)) (has_put same laws (keyed_by read old.pairs) (read k) v)

  -- the step of a loop over a slice that counts what is read of keys, which `of` reads of the items
  pub counted_read_step : {A S : Type 0} {limit : ℕ} (of : A → B) (xs : List A) (i : ℕ) (d : A) {old new : State K ℕ S} {k : K} {v : ℕ}
      {needs : Option ℕ} → CountsEach same (map of (take i xs)) (keyed_by read old.pairs)
      → Puts limit (λ x y. same (read x) (read y)) old k v needs new → i < length xs → read k ≡ of (get_or xs i d)
      → v ≡ unwrap_or (lookup (λ x. same (read k) (read x)) old.pairs) 0 + 1
      → CountsEach same (map of (take (i + 1) xs)) (keyed_by read new.pairs)
  counted_read_step of xs i d {old} {new} {k} {v} before puts within item more =
      let counted = counted_more laws (map of (take i xs)) before (has_put_read puts) in
      let held = lookup-keyed_by read (same (read k)) old.pairs in
      grind (arith, common_steps, counted, held, map, map-append, take_more xs i d within)

  -- the step of one that sums by what is read of keys: `of` reads of an item what its key has, and the number
  pub summed_read_step : {A S : Type 0} {limit : ℕ} (of : A → B × ℕ) (xs : List A) (i : ℕ) (d : A) {old new : State K ℕ S} {k : K} {v : ℕ}
      {needs : Option ℕ} → SumsEach same (map of (take i xs)) (keyed_by read old.pairs)
      → Puts limit (λ x y. same (read x) (read y)) old k v needs new → i < length xs → read k ≡ (of (get_or xs i d)).0
      → v ≡ unwrap_or (lookup (λ x. same (read k) (read x)) old.pairs) 0 + (of (get_or xs i d)).1
      → SumsEach same (map of (take (i + 1) xs)) (keyed_by read new.pairs)
  summed_read_step of xs i d {old} {new} {k} {v} before puts within item more =
      let summed = summed_more laws (map of (take i xs)) (of (get_or xs i d)).1 before (has_put_read puts) in
      let held = lookup-keyed_by read (same (read k)) old.pairs in
      grind (arith, common_steps, held, map, map-append, summed, take_more xs i d within)

  -- no count is more than there are items
  pub count_read_fits : {A : Type 0} (of : A → B) (xs : List A) (ps : List (K × ℕ)) → CountsEach same (map of xs) (keyed_by read ps)
      → (k : K) → unwrap_or (lookup (λ x. same (read k) (read x)) ps) 0 ≤ length xs
  count_read_fits of xs ps counted k =
      let most = count_fits laws counted (read k) in
      omega (arith, most, length-map xs of, ap (λ o. unwrap_or o 0) (lookup-keyed_by read (same (read k)) ps))

  -- no sum is more than that of all items which have what is read of the key
  pub sum_read_fits : {A : Type 0} (of : A → B × ℕ) (xs : List A) (i : ℕ) (d : A) (ps : List (K × ℕ)) (k : K)
      → SumsEach same (map of (take i xs)) (keyed_by read ps) → i < length xs → read k ≡ (of (get_or xs i d)).0
      → unwrap_or (lookup (λ x. same (read k) (read x)) ps) 0 + (of (get_or xs i d)).1
      ≤ sum (values_of (filter (λ x. same (read k) x.0) (map of xs)))
  sum_read_fits of xs i d ps k before within item =
      let passes = subst (λ b. same (read k) b ≡ true) item (laws.refl (read k)) in
      let held = ap (λ o. unwrap_or o 0) (lookup-keyed_by read (same (read k)) ps) in
      omega (arith, before.sums (read k), held, sum_within of (same (read k)) xs i d within passes)

-- clones that keep what is read of each key, and each value, keep the pairs under that
pub keyed_by-clones : {K B V : Type 0} (read : K → B) {key_clone : K → K → Type 0} {value_clone : V → V → Type 0}
    → ((k copy : K) → key_clone k copy → read copy ≡ read k) → ClonesAreCopies value_clone
    → (old new : List (K × V)) → ArePairClones key_clone value_clone old new → keyed_by read new ≡ keyed_by read old
keyed_by-clones read alike copies [] [] clones = refl
keyed_by-clones read alike copies [] (q ∷ new) clones = absurd clones
keyed_by-clones read alike copies (p ∷ old) [] clones = absurd clones
keyed_by-clones read alike copies (p ∷ old) (q ∷ new) clones =
    λ i. (alike p.0 q.0 clones.0.0 i, copies p.1 q.1 clones.0.1 i) ∷ keyed_by-clones read alike copies old new clones.1 i

-- ---- keys that are strings, under their bytes

module _ {V Y S : Type 0} {limit : ℕ} {old new : State (String Y) V S} {k : String Y} {v : V} {needs : Option ℕ} where
  -- what a put leaves for every text
  pub has_put_text : Puts limit string_eq old k v needs new
      → HasPut bytes_eq (keyed_by string_bytes old.pairs) (string_bytes k) v (keyed_by string_bytes new.pairs)
  has_put_text = has_put_read string_bytes nat_list_eq_equiv

  -- what every other text has after it, if the text of the key is known
  pub others_text : Puts limit string_eq old k v needs new → (text : List ℕ) → string_bytes k ≡ text
      → (other : List ℕ) → bytes_eq text other ≡ false
      → value_of bytes_eq (keyed_by string_bytes new.pairs) other ≡ value_of bytes_eq (keyed_by string_bytes old.pairs) other
  others_text puts text is other apart = (has_put_text puts).others other (ap (λ t. bytes_eq t other) is ∙ apart)

-- what the removal of a text leaves for every text
pub has_removed_text : {V R Y S : Type 0} {limit : ℕ} {old new : State (String Y) V S} {held result : Option R} (text : List ℕ)
    → IsDistinct string_eq (keys_of old.pairs) → SwapRemoves limit string_eq (λ k. bytes_eq text (string_bytes k)) old held result new
    → HasRemoved bytes_eq (keyed_by string_bytes old.pairs) text (keyed_by string_bytes new.pairs)
has_removed_text {old = old} {new = new} text distinct removes =
    subst (HasRemoved bytes_eq (keyed_by string_bytes old.pairs) text)
    (sym (ap (keyed_by string_bytes) removes.after.pairs ∙ keyed_by-swap_out string_bytes (bytes_eq text) old.pairs))
    (has_removed bytes_eq nat_list_eq_equiv (keyed_by string_bytes old.pairs) (keyed_by-distinct string_bytes bytes_eq old.pairs distinct)
    text)

-- what every text has once this value is written to a held one
pub lookup_set_text : {V Y : Type 0} (text : List ℕ) (ps : List (String Y × V)) (v : V) (other : List ℕ)
    → value_of bytes_eq (keyed_by string_bytes (set_value (λ k. bytes_eq text (string_bytes k)) ps v)) other
    ≡ cond (bytes_eq text other) (option_map (λ _. v) (value_of bytes_eq (keyed_by string_bytes ps) other))
    (value_of bytes_eq (keyed_by string_bytes ps) other)
lookup_set_text text ps v other =
    ap (λ qs. value_of bytes_eq qs other) (keyed_by-set string_bytes (bytes_eq text) ps v)
    ∙ lookup_set bytes_eq nat_list_eq_equiv (bytes_eq text) (nat_list_eq_equiv.congr text) (keyed_by string_bytes ps) v other

-- the step of a loop over a slice that counts texts, which `of` reads of the items
pub counted_text_step :
    {A Y S : Type 0} {limit : ℕ} (of : A → List ℕ) (xs : List A) (i : ℕ) (d : A) {old new : State (String Y) ℕ S} {k : String Y} {v : ℕ}
    {needs : Option ℕ} → CountsEach bytes_eq (map of (take i xs)) (keyed_by string_bytes old.pairs) → Puts limit string_eq old k v needs new
    → i < length xs → string_bytes k ≡ of (get_or xs i d) → v ≡ unwrap_or (value_of string_eq old.pairs k) 0 + 1
    → CountsEach bytes_eq (map of (take (i + 1) xs)) (keyed_by string_bytes new.pairs)
counted_text_step = counted_read_step string_bytes nat_list_eq_equiv

-- the step of one that sums by text: `of` reads of an item its text and its number
pub summed_text_step :
    {A Y S : Type 0} {limit : ℕ} (of : A → List ℕ × ℕ) (xs : List A) (i : ℕ) (d : A) {old new : State (String Y) ℕ S} {k : String Y} {v : ℕ}
    {needs : Option ℕ} → SumsEach bytes_eq (map of (take i xs)) (keyed_by string_bytes old.pairs) → Puts limit string_eq old k v needs new
    → i < length xs → string_bytes k ≡ (of (get_or xs i d)).0 → v ≡ unwrap_or (value_of string_eq old.pairs k) 0 + (of (get_or xs i d)).1
    → SumsEach bytes_eq (map of (take (i + 1) xs)) (keyed_by string_bytes new.pairs)
summed_text_step = summed_read_step string_bytes nat_list_eq_equiv

-- no sum is more than that of all items of its text, so that one more fits if that does
pub sum_text_fits :
    {A Y : Type 0} (of : A → List ℕ × ℕ) (xs : List A) (i : ℕ) (d : A) (ps : List (String Y × ℕ)) (k : String Y)
    → SumsEach bytes_eq (map of (take i xs)) (keyed_by string_bytes ps) → i < length xs → string_bytes k ≡ (of (get_or xs i d)).0
    → unwrap_or (value_of string_eq ps k) 0 + (of (get_or xs i d)).1
    ≤ sum (values_of (filter (λ x. bytes_eq (string_bytes k) x.0) (map of xs)))
sum_text_fits = sum_read_fits string_bytes nat_list_eq_equiv

-- no count is more than there are items, so that one more fits
pub count_text_fits : {A Y : Type 0} (of : A → List ℕ) (xs : List A) (ps : List (String Y × ℕ))
    → CountsEach bytes_eq (map of xs) (keyed_by string_bytes ps)
    → (k : String Y) → unwrap_or (value_of string_eq ps k) 0 ≤ length xs
count_text_fits = count_read_fits string_bytes nat_list_eq_equiv

-- the clone of a map has its texts with their values, if these are copied
pub cloned_texts : {V S Y : Type 0} {value_clone : V → V → Type 0} {builder_clone : S → S → Type 0} {old new : State (String Y) V S}
    → ClonesAreCopies value_clone → IsCloneOf (λ k copy. string_bytes copy ≡ string_bytes k) value_clone builder_clone old new
    → keyed_by string_bytes new.pairs ≡ keyed_by string_bytes old.pairs
cloned_texts {old = old} {new = new} copies clone = keyed_by-clones string_bytes (λ k copy same. same) copies old.pairs new.pairs clone.pairs

-- for functions over texts
pub ruleset text_facts = (lookup-keyed_by, lookup_set_text, has_put_text, others_text, has_removed_text)
