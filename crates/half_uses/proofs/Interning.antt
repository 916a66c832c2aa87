-- Texts by number: the texts of a map's keys, and what one text more makes of their numbers.
use Rattle.std.proofs.Common.{◌≡◌, ℕ, suc, Bool, true, false, cond, List, [], ◌∷◌, ◌++◌, length, map, slice_get, Option, None, Some, arith}
use Rattle.std.proofs.Common.{is_some, bytes_eq, string_bytes, String, IfSome, refl, sym, ap, ◌∙◌}
use Rattle.std.proofs.lemmas.Grind.{common_steps}
use Rattle.std.proofs.lemmas.List.{map_push}
use Rattle.std.proofs.lemmas.Option.{slice_get-map}
use Rattle.std.specs.Cmp.Lexicographic.{bytes_decides, nat_list_eq_equiv}
use Rattle.std.specs.List.{IsDistinct}
use Rattle.std.specs.Map.{keys_of}
use Rattle.std.specs.Option.{option_map}
use Rattle.std.specs.String.{string_eq, string_eq_equiv}
use Rattle.halfbrown.specs.Pairs.{index_of, holds, put}
use Rattle.halfbrown.proofs.lemmas.pairs.Indices.{absent_of_index, index_of_pair}
use Rattle.halfbrown.specs.Lookup.{KeyMissing}
use Rattle.half_uses.specs.Interner.{number_of, with_text}

-- ---- the place of the first that passes a test

index_of-map : {X Y : Type 0} (f : X → Y) (test : Y → Bool) (xs : List X) → index_of test (map f xs) ≡ index_of (λ x. test (f x)) xs
index_of-map f test [] = refl
index_of-map f test (x ∷ xs) = ap (λ place. cond (test (f x)) (Some 0) (option_map suc place)) (index_of-map f test xs)

module _ {X : Type 0} (test : X → Bool) where
  index_of_kept : (xs more : List X) (i : ℕ) → index_of test xs ≡ Some i → index_of test (xs ++ more) ≡ Some i
  index_of_kept [] more i is = absurd (cc)
  index_of_kept (x ∷ xs) more i is = grind (arith, common_steps, index_of_kept xs more)

  index_of_last : (xs : List X) (x : X) → index_of test xs ≡ None → test x ≡ true → index_of test (xs ++ x ∷ []) ≡ Some (length xs)
  index_of_last [] x absent passes = grind (arith, common_steps)
  index_of_last (y ∷ xs) x absent passes = grind (arith, common_steps, index_of_last xs x)

-- ---- texts

-- the text of a number is the one that has the number
pub text_of_number : (texts : List (List ℕ)) (text : List ℕ) (i : ℕ) → number_of texts text ≡ Some i → slice_get texts i ≡ Some text
text_of_number [] text i is = absurd (cc)
text_of_number (t ∷ texts) text i is = grind (arith, common_steps, text_of_number texts text, (bytes_decides text t).0)

pub text_where_found : (texts : List (List ℕ)) (text : List ℕ) (found : Option ℕ) → found ≡ number_of texts text
    → IfSome found (λ i. slice_get texts i ≡ Some text)
text_where_found texts text found is = grind (arith, common_steps, text_of_number texts text)

module _ (texts : List (List ℕ)) (text : List ℕ) where
  module _ (absent : number_of texts text ≡ None) where
    pub with_new : texts ++ text ∷ [] ≡ with_text texts text
    with_new = sym (ap (λ found. cond (is_some found) texts (texts ++ text ∷ [])) absent)

    pub number_of_new : number_of (texts ++ text ∷ []) text ≡ Some (length texts)
    number_of_new = index_of_last (bytes_eq text) texts text absent (nat_list_eq_equiv.refl text)

  pub number_kept : (other : List ℕ) (i : ℕ) → number_of texts other ≡ Some i → number_of (texts ++ text ∷ []) other ≡ Some i
  number_kept other i is = index_of_kept (bytes_eq other) texts (text ∷ []) i is

-- ---- the texts of a map's keys

module _ {Z V : Type 0} where
  -- the texts of these keys
  abbrev pub texts_of : List (String Z × V) → List (List ℕ)
  texts_of pairs = map string_bytes (keys_of pairs)

  -- the index of a text's key is the number of the text
  pub index_of_text : (pairs : List (String Z × V)) (text : List ℕ)
      → index_of (λ key. bytes_eq text (string_bytes key)) (keys_of pairs) ≡ number_of (texts_of pairs) text
  index_of_text pairs text = sym (index_of-map string_bytes (bytes_eq text) (keys_of pairs))

  texts_push : (pairs : List (String Z × V)) (key : String Z) (v : V)
      → texts_of (pairs ++ (key, v) ∷ []) ≡ texts_of pairs ++ string_bytes key ∷ []
  texts_push pairs key v = ap (map string_bytes) (map_push (λ p. p.0) pairs (key, v)) ∙ map_push string_bytes (keys_of pairs) key

  -- a key that is distinct from all before has the number of its index
  pub number_of_key : (pairs : List (String Z × V)) (i : ℕ) (pair : String Z × V) → IsDistinct string_eq (keys_of pairs)
      → slice_get pairs i ≡ Some pair
      → number_of (texts_of pairs) (string_bytes pair.0) ≡ Some i
  number_of_key pairs i pair distinct at =
      sym (index_of_text pairs (string_bytes pair.0)) ∙ (index_of_pair string_eq string_eq_equiv pairs i pair distinct at).index_is

  pub text_of_key : (pairs : List (String Z × V)) (i : ℕ) (pair : String Z × V) → slice_get pairs i ≡ Some pair
      → slice_get (texts_of pairs) i ≡ Some (string_bytes pair.0)
  text_of_key pairs i pair at =
      slice_get-map string_bytes (keys_of pairs) i
      ∙ ap (option_map string_bytes) (slice_get-map (λ p. p.0) pairs i ∙ ap (option_map (λ p. p.0)) at)

  module _ (pairs : List (String Z × V)) (texts : List (List ℕ)) (key : String Z) (text : List ℕ) (are : texts_of pairs ≡ texts)
      (stored : string_bytes key ≡ text) (new : number_of texts text ≡ None) where
    absent : KeyMissing (string_eq key) pairs
    absent = absent_of_index (string_eq key) pairs
        (sym (index_of_text pairs (string_bytes key) ∙ (λ i. number_of (are i) (stored i)) ∙ new))

    -- a text that has no number is no key
    pub absent_key : holds string_eq pairs key ≡ false
    absent_key = absent.held

    -- the texts once the text is stored
    pub texts_with_new : (after : List (String Z × V)) (v : V) → after ≡ put string_eq pairs key v → texts_of after ≡ texts ++ text ∷ []
    texts_with_new after v is = ap texts_of (is ∙ absent.put_is key v) ∙ texts_push pairs key v ∙ (λ i. are i ++ stored i ∷ [])
