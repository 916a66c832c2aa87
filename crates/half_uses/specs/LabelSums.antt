-- Equal sets of labels have the same number: the sums over pairs that are equal as maps are equal.
use Rattle.std.proofs.Common.{◌≡◌, ℕ, ◌+◌, ◌%◌, ◌^◌, Bool, true, false, cond, List, [], ◌∷◌, ◌++◌, fold, Option, None, Some, sum_by, refl}
use Rattle.std.proofs.Common.{ap, arith, string_bytes}
use Rattle.std.proofs.lemmas.Grind.{common_steps}
use Rattle.std.proofs.lemmas.List.Sums.{sum_by-cons}
use Rattle.std.proofs.lemmas.Map.{lookup-remove_entry, lookup-none}
use Rattle.std.proofs.lemmas.Map.Entries.{none_past_head}
use Rattle.std.specs.Cmp.{IsEquivalence}
use Rattle.std.specs.Cmp.Lexicographic.{bytes_decides}
use Rattle.std.specs.Hash as fed
use Rattle.std.specs.Hash.FoldHasher.{initial, write, finish}
use Rattle.std.specs.HashMap.Eq.{lookup_congr}
use Rattle.std.specs.List.{IsDistinct, AllByRecursion}
use Rattle.std.specs.Map.{keys_of, lookup, remove_entry}
use Rattle.std.specs.Option.{option_eq}
use Rattle.std.specs.String.{string_eq, string_eq_equiv}
use Rattle.std.specs.declared.alloc.Global.{Global}
use Rattle.std.specs.declared.string.String.{String}
use Rattle.halfbrown.specs.Equality.{same_pairs, same_pairs-Decides}
use Rattle.half_uses.specs.Labels.{label_hash, labels_number}

-- ---- a pair that is removed

module _ {K V : Type 0} (test : K → Bool) where
  -- a fact of all keys stays true without the pair
  all_kept : (P : K → Type 0) (ps : List (K × V)) → AllByRecursion P (keys_of ps) → AllByRecursion P (keys_of (remove_entry test ps))
  all_kept P [] all = all
  all_kept P (p ∷ ps) all =
      elim (test p.0) as (λ b. AllByRecursion P (keys_of (cond b ps (p ∷ remove_entry test ps))))
      [ true ↦ all.1 | false ↦ (all.0, all_kept P ps all.1) ]

  distinct_kept : (eq : K → K → Bool) (ps : List (K × V)) → IsDistinct eq (keys_of ps) → IsDistinct eq (keys_of (remove_entry test ps))
  unfolding IsDistinct
  distinct_kept eq [] distinct = distinct
  distinct_kept eq (p ∷ ps) distinct =
      elim (test p.0) as (λ b. IsDistinct eq (keys_of (cond b ps (p ∷ remove_entry test ps))))
      [ true ↦ distinct.1 | false ↦ (all_kept (λ k. eq p.0 k ≡ false) ps distinct.0, distinct_kept eq ps distinct.1) ]

  -- a value that is found is that of a pair, and the sum is that of this pair and of the others
  record IsTaken (f : K × V → ℕ) (ps : List (K × V)) (v : V) : Type 0 where
    key : K
    passes : test key ≡ true
    sum_is : sum_by f ps ≡ f (key, v) + sum_by f (remove_entry test ps)

  taken_at : (f : K × V → ℕ) (p : K × V) (ps : List (K × V)) (v : V) (b : Bool) → test p.0 ≡ b
      → (lookup test ps ≡ Some v → IsTaken f ps v) → lookup test (p ∷ ps) ≡ Some v → IsTaken f (p ∷ ps) v
  taken_at f p ps v true is later found = record {
    key = p.0;
    passes = is;
    sum_is = grind (arith, common_steps, is, found, sum_by-cons f p ps);
  }
  taken_at f p ps v false is later found =
      let rest = later (grind (arith, common_steps, is, found)) in
      record {
        key = rest.key;
        passes = rest.passes;
        sum_is = grind (arith, common_steps, is, rest.sum_is, sum_by-cons f p ps, sum_by-cons f p (remove_entry test ps));
      }

  taken : (f : K × V → ℕ) (ps : List (K × V)) (v : V) → lookup test ps ≡ Some v → IsTaken f ps v
  taken f [] v found = absurd (cc)
  taken f (p ∷ ps) v found = taken_at f p ps v (test p.0) refl (taken f ps v) found

-- ---- lists of pairs that are equal as maps

-- what equals `Some v` is `Some` of an equal value
matched : {V : Type 0} (eq : V → V → Bool) (v : V) (found : Option V) → option_eq eq (Some v) found ≡ true
    → (w : V) × (found ≡ Some w) × (eq v w ≡ true)
matched eq v None same = absurd (cc)
matched eq v (Some w) same = (w, refl, same)

module _ {K V : Type 0} (eq : K → K → Bool) (value_eq : V → V → Bool) (laws : IsEquivalence eq) (f : K × V → ℕ)
    (alike : (k q : K) (v w : V) → eq k q ≡ true → value_eq v w ≡ true → f (k, v) ≡ f (q, w)) where
  -- each key has equal values in both
  Agree : List (K × V) → List (K × V) → Type 0
  Agree xs ys = (k : K) → option_eq value_eq (lookup (eq k) xs) (lookup (eq k) ys) ≡ true

  -- two lists that agree still do so once each has lost its pair of one key
  agree_on : (p : K × V) (xs ys : List (K × V)) → IsDistinct eq (keys_of (p ∷ xs)) → IsDistinct eq (keys_of ys) → Agree (p ∷ xs) ys
      → Agree xs (remove_entry (eq p.0) ys)
  unfolding Agree
  agree_on p xs ys distinct others agree k =
      let left = lookup-remove_entry laws (eq p.0) (laws.congr p.0) k ys others in
      let none = lookup-none (eq p.0) xs (none_past_head laws p.0 p xs distinct (laws.refl p.0)) in
      let same = lookup_congr eq laws.congr xs p.0 k in
      grind (arith, common_steps, left, none, same, agree k, laws.symm p.0 k)

  agreeing_sums : (xs ys : List (K × V)) → IsDistinct eq (keys_of xs) → IsDistinct eq (keys_of ys) → Agree xs ys → sum_by f xs ≡ sum_by f ys
  unfolding Agree IsDistinct
  agreeing_sums [] [] distinct others agree = refl
  agreeing_sums [] (q ∷ ys) distinct others agree = absurd (grind (arith, common_steps, agree q.0, laws.refl q.0))
  agreeing_sums (p ∷ xs) ys distinct others agree =
      let found = matched value_eq p.1 (lookup (eq p.0) ys) (grind (arith, common_steps, agree p.0, laws.refl p.0)) in
      let out = taken (eq p.0) f ys found.0 found.1 in
      let rest = agreeing_sums xs (remove_entry (eq p.0) ys) distinct.1 (distinct_kept (eq p.0) eq ys others)
      (agree_on p xs ys distinct others agree) in
      grind (arith, common_steps, out.sum_is, rest, sum_by-cons f p xs, alike p.0 out.key p.1 found.0 out.passes found.2)

  -- lists of distinct keys that are equal as maps have equal sums, of what f makes of each pair
  pub sums_alike : (xs ys : List (K × V)) → IsDistinct eq (keys_of xs) → IsDistinct eq (keys_of ys) → same_pairs eq value_eq xs ys ≡ true
      → sum_by f xs ≡ sum_by f ys
  unfolding Agree
  sums_alike xs ys distinct others same = agreeing_sums xs ys distinct others ((same_pairs-Decides eq value_eq laws xs ys).0 same)

-- ---- labels

-- equal names with equal texts hash alike
label_alike : (k q v w : String Global) → string_eq k q ≡ true → string_eq v w ≡ true → label_hash (k, v) ≡ label_hash (q, w)
label_alike k q v w names texts =
    let same = (bytes_decides (string_bytes k) (string_bytes q)).0 names in
    let alike = (bytes_decides (string_bytes v) (string_bytes w)).0 texts in
    λ i. finish (fold write initial (fed.str (same i) ++ fed.str (alike i)))

-- equal sets of labels feed a hasher alike
pub equal_alike : (xs ys : List (String Global × String Global)) → IsDistinct string_eq (keys_of xs) → IsDistinct string_eq (keys_of ys)
    → same_pairs string_eq string_eq xs ys ≡ true → fed.u64 (labels_number xs) ≡ fed.u64 (labels_number ys)
equal_alike xs ys distinct others same =
    ap (λ sum. fed.u64 (sum % 2 ^ 64)) (sums_alike string_eq string_eq string_eq_equiv label_hash label_alike xs ys distinct others same)
