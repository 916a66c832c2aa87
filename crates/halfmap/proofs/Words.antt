-- Where a text is cut into words.
use Rattle.halfmap.proofs.Common.{ℕ, ◌+◌, false, List, [], ◌∷◌, ◌++◌, length, take, drop, ◌≡◌, sym, ◌∙◌, ap, subst, arith}
use Rattle.halfmap.proofs.Common.{zero-add, IfNone, IfSome, Option, Some, None, position, nat_eq, codes, AllDigits}
use Rattle.halfmap.proofs.Common.{drop-append_seam, take-append_seam, drop-append-add, Decides-eqb, nat_tests, strip_prefix_is}
use Rattle.halfmap.proofs.Common.{digit_from_value, Writes, WritesAfter, WritesTwo, IsTextOf, is_space, Request, Insert, Get}
use Rattle.halfmap.proofs.Common.{Remove, Form}
use Rattle.std.specs.Cmp.Lexicographic.{pointwise}
use Rattle.std.specs.List.{position_from}
use Rattle.std.specs.Int.{IsInRange}
use Rattle.std.proofs.lemmas.Iterator.Adapters.{position_from-zero}

-- clauses on an answer: a fact that holds anyway, and one that follows from a call's clause
pub none_then : {A X : Type 0} (r : Option A) → X → IfNone r X
none_then None x = x
none_then (Some a) x = tt

pub some_maps : {A : Type 0} {P Q : A → Type 0} (r : Option A) → ((a : A) → P a → Q a) → IfSome r P → IfSome r Q
some_maps None f h = tt
some_maps (Some a) f h = f a h

pub none_maps : {A X Y : Type 0} (r : Option A) → (X → Y) → IfNone r X → IfNone r Y
none_maps None f h = f h
none_maps (Some a) f h = tt

digit_is_no_space : (c : ℕ) → IsInRange 48 57 c → is_space c ≡ false
digit_is_no_space c h = grind (arith, nat_tests)

-- the first space stands behind the digits
space_after_digits : (i : ℕ) (ks vs : List ℕ) → AllDigits 10 ks → position_from is_space i (ks ++ 32 ∷ vs) ≡ Some (i + length ks)
space_after_digits i [] vs h = ap Some (omega arith)
space_after_digits i (k ∷ ks) vs h =
    rw (digit_is_no_space k (digit_from_value k h.0)) (space_after_digits (i + 1) ks vs h.1 ∙ ap Some (omega arith))

pub first_space_of_two : (text : List ℕ) (m n : ℕ) → (w : WritesTwo text m n) → position is_space text ≡ Some (length w.first)
first_space_of_two text m n w =
    ap (position is_space) w.text_is ∙ position_from-zero is_space (w.first ++ 32 ∷ w.second)
    ∙ space_after_digits 0 w.first w.second w.first_writes.numeral.1 ∙ ap Some (zero-add (length w.first))

pub no_first_space : (text : List ℕ) → position is_space text ≡ None → (m n : ℕ) → ¬ (WritesTwo text m n)
no_first_space text e m n w = let f = first_space_of_two text m n w in cc

end_is : (text : List ℕ) (end : ℕ) → position is_space text ≡ Some end → (m n : ℕ) → (w : WritesTwo text m n) → end ≡ length w.first
end_is text end e m n w = let f = first_space_of_two text m n w in cc

pub no_first_number : (text : List ℕ) (end : ℕ) → position is_space text ≡ Some end → ((m : ℕ) → ¬ (Writes (take end text) m)) → (m n : ℕ)
    → ¬ (WritesTwo text m n)
no_first_number text end e none m n w =
    let cut : take end text ≡ w.first = ap (λ k. take k text) (end_is text end e m n w) ∙ ap (take (length w.first)) w.text_is
    ∙ take-append_seam w.first (32 ∷ w.second) in
    none m (subst (λ (word : List ℕ). Writes word m) (sym cut) w.first_writes)

pub no_second_number : (text word : List ℕ) (end : ℕ) → position is_space text ≡ Some end → word ≡ drop (end + 1) text
    → ((n : ℕ) → ¬ (Writes word n)) → (m n : ℕ) → ¬ (WritesTwo text m n)
no_second_number text word end e word_is none m n w =
    let cut : word ≡ w.second = word_is ∙ ap (λ k. drop (k + 1) text) (end_is text end e m n w) ∙ ap (drop (length w.first + 1)) w.text_is
    ∙ drop-append-add w.first (32 ∷ w.second) 1 in
    none n (subst (λ (word : List ℕ). Writes word n) (sym cut) w.second_writes)

-- the word behind the letters
module _ (letters text : List ℕ) where
  pub no_letters : pointwise nat_eq (take (length letters) text) letters ≡ false → (n : ℕ) → ¬ (WritesAfter letters text n)
  no_letters h n w = strip_prefix_is Decides-eqb text letters None h w.word w.text_is

  pub number_behind : (word : List ℕ) → text ≡ letters ++ word → (n : ℕ) → Writes word n → WritesAfter letters text n
  number_behind word e n w = record { word = word; text_is = e; word_writes = w }

  pub no_number_behind : (word : List ℕ) → word ≡ drop (length letters) text → ((n : ℕ) → ¬ (Writes word n)) → (n : ℕ)
      → ¬ (WritesAfter letters text n)
  no_number_behind word e none n w =
      let cut : word ≡ w.word = e ∙ ap (drop (length letters)) w.text_is ∙ drop-append_seam letters w.word in
      none n (subst (λ (word : List ℕ). Writes word n) (sym cut) w.word_writes)

same_words : (letters words others text : List ℕ) → text ≡ letters ++ words → text ≡ letters ++ others → words ≡ others
same_words letters words others text e f = sym (drop-append_seam letters words) ∙ ap (drop (length letters)) (sym e ∙ f)
    ∙ drop-append_seam letters others

-- a text that none of the four requests is written as
pub no_request : (text words : List ℕ) → ¬ (text ≡ codes "f") → ((n : ℕ) → ¬ (WritesAfter (codes "g ") text n))
    → ((n : ℕ) → ¬ (WritesAfter (codes "r ") text n)) → text ≡ codes "i " ++ words → ((m n : ℕ) → ¬ (WritesTwo words m n))
    → (request : Request) → ¬ (IsTextOf request text)
no_request text words form get remove e insertion (Insert k v) w =
    insertion k v (subst (λ (words : List ℕ). WritesTwo words k v) (sym (same_words (codes "i ") words w.words text e w.text_is))
    w.words_write)
no_request text words form get remove e insertion (Get k) w = get k w
no_request text words form get remove e insertion (Remove k) w = remove k w
no_request text words form get remove e insertion Form w = form w
