-- What a bounded cache keeps, and what a look-up finds in it.
use Rattle.std.proofs.Common.{◌≡◌, ℕ, ◌+◌, ◌-◌, ◌<◌, ◌≤◌, Bool, true, false, List, [], ◌∷◌, ◌++◌, drop, length, None, Some, is_some, sym, ap, ◌∙◌, arith}
use Rattle.std.proofs.lemmas.Grind.{common_steps}
use Rattle.std.proofs.lemmas.List.{drop-append-le, length-append}
use Rattle.std.specs.Cmp.{IsEquivalence}
use Rattle.std.specs.HashMap.Eq.{lookup_congr}
use Rattle.std.specs.Map.{lookup, lookup_entry}
use Rattle.std.specs.Option.{option_map}
use Rattle.halfbrown.proofs.lemmas.pairs.Indices.{value_of_entry}
use Rattle.halfbrown.specs.Pairs.{IsQuery, value_of, holds, holds_by}
use Rattle.halfbrown.specs.Updates.{HasPut, HasRemovedBy}
use Rattle.half_uses.specs.BoundedCache.{newest, refreshed, making_way}

-- a list of no more items than the bound is kept whole
pub newest_all : {X : Type 0} (bound : ℕ) (xs : List X) → length xs ≤ bound → newest bound xs ≡ xs
newest_all bound xs within = let none : length xs - bound ≡ 0 = omega (arith, within) in ap (λ n. drop n xs) none

-- with one item more at the end one less of the others is kept
pub newest-push : {X : Type 0} (bound : ℕ) (xs : List X) (x : X) → 0 < bound → newest bound (xs ++ x ∷ []) ≡ newest (bound - 1) xs ++ x ∷ []
newest-push bound xs x some =
    let within : length xs - (bound - 1) ≤ length xs = omega arith in
    let same : length (xs ++ x ∷ []) - bound ≡ length xs - (bound - 1) = omega (arith, length-append xs (x ∷ []), some) in
    ap (λ n. drop n (xs ++ x ∷ [])) same ∙ drop-append-le (length xs - (bound - 1)) xs (x ∷ []) within

module _ {K V : Type 0} (test : K → Bool) where
  -- the key of a found pair passes the test, and the look-up returns the value of the pair
  entry_passes : (ps : List (K × V)) (p : K × V) → lookup_entry test ps ≡ Some p → test p.0 ≡ true
  entry_passes [] p found = absurd (cc)
  entry_passes (q ∷ ps) p found = grind (arith, common_steps, found, entry_passes ps p)

  entry_value : (ps : List (K × V)) (p : K × V) → lookup_entry test ps ≡ Some p → lookup test ps ≡ Some p.1
  entry_value ps p found = sym (value_of_entry test ps) ∙ ap (option_map (λ q. q.1)) found

  -- nothing moves if no key passes
  pub nothing_refreshed : (ps : List (K × V)) → lookup test ps ≡ None → ps ≡ refreshed test ps
  nothing_refreshed ps none = grind (arith, common_steps, none, entry_value ps)

-- the pair of a key makes way for it
pub way_of_held : {K V : Type 0} (eq : K → K → Bool) (bound : ℕ) (ps : List (K × V)) (k : K) (p : K × V) → lookup_entry (eq k) ps ≡ Some p
    → Some p ≡ making_way eq bound ps k
way_of_held eq bound ps k p found = grind (arith, common_steps, found, entry_value (eq k) ps p found)

module _ {K V : Type 0} {eq : K → K → Bool} {test : K → Bool} {old mid : List (K × V)} {p : K × V}
    (found : lookup_entry test old ≡ Some p) (removed : HasRemovedBy eq test old mid) where
  -- once a pair is removed, its key is not held
  pub out_absent : holds eq mid p.0 ≡ false
  out_absent = ap is_some (removed.equals p.0 (entry_passes test old p found))

  pub out_held : holds_by test old ≡ true
  out_held = ap is_some (entry_value test old p found)

  pub out_len : length old ≡ length mid + 1
  out_len = grind (arith, common_steps, out_held, removed.len)

  -- removing a pair and putting it back leaves what each key has
  pub put_back : {new : List (K × V)} → IsEquivalence eq → IsQuery eq test → HasPut eq mid p.0 p.1 new
      → (any : K) → value_of eq new any ≡ value_of eq old any
  put_back laws query put any =
      let passes = entry_passes test old p found in
      let value = entry_value test old p found in
      let same : test p.0 ≡ true → lookup test old ≡ lookup (eq p.0) old = λ h i. lookup (λ x. query p.0 x h i) old in
      grind (
        arith,
        common_steps,
        passes,
        value,
        same passes,
        query p.0 any passes,
        lookup_congr eq laws.congr old p.0 any,
        put.equals any,
        put.others any,
        removed.others any,
      )
