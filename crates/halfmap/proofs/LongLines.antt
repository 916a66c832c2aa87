-- A line that is too long for a request is answered as its first bytes are.
use Rattle.halfmap.proofs.Common.{◌≡◌, ℕ, ◌+◌, ◌≤◌, List, [], ◌∷◌, ◌++◌, length, refl, ap, subst, inl, inr, arith}
use Rattle.halfmap.proofs.Common.{length-append, length-take-le, take_all, codes, State, AnswersLine, kept, WritesAfter}
use Rattle.halfmap.proofs.Common.{WritesTwo, IsTextOf, Answer, Request, Insert, Get, Remove, Form}
use Rattle.std.proofs.lemmas.Bool.{cases_lt, cases_eq}
use Rattle.std.proofs.lemmas.List.{same_from_push}
use Rattle.halfmap.specs.Line.{IsWithout, IsTextOfLine}

-- how long the text of a request is at most
after_len : (letters text : List ℕ) (n : ℕ) → WritesAfter letters text n → length text ≤ length letters + 20
after_len letters text n w = omega (arith, ap length w.text_is, length-append letters w.word, w.word_writes.short)

two_len : (text : List ℕ) (m n : ℕ) → WritesTwo text m n → length text ≤ 41
two_len text m n w = omega (arith, ap length w.text_is, length-append w.first (32 ∷ w.second), w.first_writes.short, w.second_writes.short)

request_len : (request : Request) (text : List ℕ) → IsTextOf request text → length text ≤ 43
request_len (Insert k v) text w = omega (arith, ap length w.text_is, length-append (codes "i ") w.words, two_len w.words k v w.words_write)
request_len (Get k) text w = omega (arith, after_len (codes "g ") text k w)
request_len (Remove k) text w = omega (arith, after_len (codes "r ") text k w)
request_len Form text w = omega (arith, ap length w)

-- how much longer a line is at most
without_len : (end line text : List ℕ) → IsWithout end line text → length line ≤ length text + length end
without_len end line text (inl e) = omega (arith, ap length e, length-append text end)
without_len end line text (inr h) = omega (arith, ap length h.0)

text_len : (line text : List ℕ) → IsTextOfLine line text → length line ≤ length text + 2
text_len line text w = omega (arith, without_len (codes "\n") line w.bare w.without_lf, without_len (codes "\r") w.bare text w.without_cr)

no_request : (line text : List ℕ) → 46 ≤ length line → IsTextOfLine line text → (request : Request) → ¬ (IsTextOf request text)
no_request line text long w request r = omega (arith, text_len line text w, request_len request text r)

-- each line has a text
ends_later : (b x y : ℕ) (ys front : List ℕ) → x ∷ y ∷ ys ≡ front ++ b ∷ [] → (later : List ℕ) × (y ∷ ys ≡ later ++ b ∷ [])
ends_later b x y ys [] e = absurd cc
ends_later b x y ys (z ∷ front) e = (front, cc)

without_byte : (b : ℕ) (line : List ℕ) → (text : List ℕ) × IsWithout (b ∷ []) line text
without_byte b [] = ([], inr (refl, λ front e. omega (arith, ap length e, length-append front (b ∷ []))))
without_byte b (x ∷ []) =
    elim (cases_eq x b) [
      | inl e ↦ ([], inl (ap (λ y. y ∷ []) e))
      | inr ne ↦ (x ∷ [], inr (refl, λ front e. ne (same_from_push [] front x b e).1))
    ]
without_byte b (x ∷ y ∷ ys) =
    let rest = without_byte b (y ∷ ys) in
    elim rest.1 [
      | inl e ↦ (x ∷ rest.0, inl (ap (λ l. x ∷ l) e))
      | inr h ↦ (x ∷ y ∷ ys, inr (refl, λ front e. let later = ends_later b x y ys front e in h.1 later.0 later.1))
    ]

text_of_line : (line : List ℕ) → (text : List ℕ) × IsTextOfLine line text
text_of_line line =
    let bare = without_byte 10 line in
    let text = without_byte 13 bare.0 in
    (text.0, record { bare = bare.0; without_lf = bare.1; without_cr = text.1 })

module _ {S : Type 0} (line : List ℕ) (old : State ℕ ℕ S) (answer : Answer) (new : State ℕ ℕ S) where
  answers_long : 46 ≤ length line → AnswersLine (kept line) old answer new → AnswersLine line old answer new
  answers_long long (text, is, inl (request, r, a)) =
      let kept_long : 46 ≤ length (kept line) = omega (arith, length-take-le 46 line long) in
      absurd (no_request (kept line) text kept_long is request r)
  answers_long long (text, is, inr h) =
      let whole = text_of_line line in
      (whole.0, whole.1, inr (no_request line whole.0 long whole.1, h.1, h.2))

  -- what answers the bytes that are kept of a line answers the line
  pub answers_line : AnswersLine (kept line) old answer new → AnswersLine line old answer new
  answers_line a =
      elim (cases_lt (length line) 46) [
        | inl short ↦ subst (λ (l : List ℕ). AnswersLine l old answer new) (take_all 46 line (omega arith)) a
        | inr long ↦ answers_long long a
      ]
