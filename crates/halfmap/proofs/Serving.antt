-- A session, line by line.
use Rattle.halfmap.proofs.Common.{◌≡◌, ℕ, ◌<◌, Bool, true, false, List, [], ◌∷◌, ◌++◌, length, refl, sym, ap, subst, ◌∙◌, arith}
use Rattle.halfmap.proofs.Common.{append_assoc, append-nil, length-take, Some, None, IfSome, Option, IsTrue, ◌↔◌, take_through}
use Rattle.halfmap.proofs.Common.{drop_through, Keeps, Appends, Appends-nil, Appends-kept, Appends-trans, take_through-nil}
use Rattle.halfmap.proofs.Common.{common_steps, flat_map-append, State, AnswersLine, kept, ReadsLine, Answer, KEPT_BYTES}
use Rattle.halfmap.specs.Session.{lines_of, Session, Serves, ServesFromEmpty}
use Rattle.halfmap.specs.Text.{line_of, output_of}

-- the first line of a text, and the others
lines_next : (x : ℕ) (xs : List ℕ) → lines_of (x ∷ xs) ≡ take_through 10 (x ∷ xs) ∷ lines_of (drop_through 10 (x ∷ xs))
lines_next x [] = grind (arith, common_steps)
lines_next x (y ∷ ys) = grind (arith, common_steps, lines_next y ys)

first_line : (text line : List ℕ) → 0 < length line → line ≡ take_through 10 text → lines_of text ≡ line ∷ lines_of (drop_through 10 text)
first_line [] line some e = absurd (omega (arith, ap length e))
first_line (x ∷ xs) line some e = lines_next x xs ∙ ap (λ l. l ∷ lines_of (drop_through 10 (x ∷ xs))) (sym e)

-- one line more
module _ {S : Type 0} where
  session_more : (lines : List (List ℕ)) (answers : List Answer) (line : List ℕ) (answer : Answer) (old middle new : State ℕ ℕ S)
      → Session lines old answers middle → AnswersLine line middle answer new
      → Session (lines ++ line ∷ []) old (answers ++ answer ∷ []) new
  session_more [] [] line answer old middle new e a = (new, subst (λ m. AnswersLine line m answer new) e a, refl)
  session_more (l ∷ ls) (x ∷ xs) line answer old middle new s a = (s.0, s.1, session_more ls xs line answer s.0 middle new s.2 a)
  session_more ls xs line answer old middle new e a = absurd e

output_more : (answers : List Answer) (answer : Answer) → output_of answers ++ line_of answer ≡ output_of (answers ++ answer ∷ [])
output_more answers answer =
    sym (flat_map-append line_of answers (answer ∷ []) ∙ ap (λ l. output_of answers ++ l) (append-nil (line_of answer)))

-- what the known input has had taken from it: these whole lines
abbrev pub LinesTaken : Option (List ℕ) → List (List ℕ) → Option (List ℕ) → Type 0
LinesTaken None lines new = Unit {0}
LinesTaken (Some text) lines None = ⊥
LinesTaken (Some text) lines (Some rest) = lines_of text ≡ lines ++ lines_of rest

-- a session so far
pub record IsServed {S : Type 0} (input rest : Option (List ℕ)) (old new : State ℕ ℕ S) (before after : Option (List ℕ)) : Type 0 where
  pub lines : List (List ℕ)
  pub answers : List Answer
  pub taken : LinesTaken input lines rest
  pub session : Session lines old answers new
  pub written : Appends before after (output_of answers)

none_taken : (input : Option (List ℕ)) → LinesTaken input [] input
none_taken None = tt
none_taken (Some text) = refl

line_taken : (input rest new : Option (List ℕ)) (lines : List (List ℕ)) (line : List ℕ) → 0 < length line
    → LinesTaken input lines rest → ReadsLine rest new line → LinesTaken input (lines ++ line ∷ []) new
line_taken input rest new lines line some t r = grind (arith, common_steps, first_line, append_assoc)

all_taken : (input rest new : Option (List ℕ)) (lines : List (List ℕ)) (line : List ℕ) → length line ≡ 0
    → LinesTaken input lines rest → ReadsLine rest new line → IfSome input (λ text. lines ≡ lines_of text)
all_taken input rest new lines line none t r = grind (arith, common_steps, take_through-nil, append-nil)

-- a line has a byte exactly if one is kept of it
pub some_line : (more : Bool) (line whole : List ℕ) → line ≡ kept whole → (IsTrue more ↔ 0 < length line) → more ≡ true → 0 < length whole
some_line more line whole e more_is is_true = omega (arith, more_is.0 is_true, ap length e, length-take KEPT_BYTES whole)

pub no_line : (more : Bool) (line whole : List ℕ) → line ≡ kept whole → (IsTrue more ↔ 0 < length line) → more ≡ false → length whole ≡ 0
no_line more line [] e more_is is_false = refl
no_line more line (x ∷ xs) e more_is is_false =
    let is_true : more ≡ true = more_is.1 (omega (arith, ap length e)) in
    absurd cc

module _ {S : Type 0} where
  pub serves_nothing : (input : Option (List ℕ)) (map : State ℕ ℕ S) (out : Option (List ℕ)) → IsServed input input map map out out
  serves_nothing input map out = record { lines = []; answers = []; taken = none_taken input; session = refl; written = Appends-nil out }

  pub serves_line : (input rest new : Option (List ℕ)) (old middle last : State ℕ ℕ S) (before after flushed more : Option (List ℕ))
      (line : List ℕ) (answer : Answer)
      → IsServed input rest old middle before after → Keeps after flushed → 0 < length line → ReadsLine rest new line
      → AnswersLine line middle answer last → Appends flushed more (line_of answer) → IsServed input new old last before more
  serves_line input rest new old middle last before after flushed more line answer s keeps some r a w = record {
    lines = s.lines ++ line ∷ [];
    answers = s.answers ++ answer ∷ [];
    taken = line_taken input rest new s.lines line some s.taken r;
    session = session_more s.lines s.answers line answer old middle last s.session a;
    written = subst (Appends before more) (output_more s.answers answer)
        (Appends-trans before flushed more (output_of s.answers) (line_of answer)
        (Appends-kept before after flushed (output_of s.answers) s.written keeps) w);
  }

  pub serves_all : (input rest new : Option (List ℕ)) (old last : State ℕ ℕ S) (before after flushed : Option (List ℕ)) (line : List ℕ)
      → IsServed input rest old last before after → Keeps after flushed → length line ≡ 0 → ReadsLine rest new line
      → Serves input old last before flushed
  serves_all input rest new old last before after flushed line s keeps none r = record {
    lines = s.lines;
    answers = s.answers;
    all_lines = all_taken input rest new s.lines line none s.taken r;
    session = s.session;
    written = Appends-kept before after flushed (output_of s.answers) s.written keeps;
  }

-- the same if what was known and what is kept afterwards have other names
pub serves_by : {S : Type 0} (input given : Option (List ℕ)) (first last : State ℕ ℕ S) (before was after left : Option (List ℕ))
    → input ≡ given → before ≡ was → first.pairs ≡ [] → first.is_vec ≡ true → first.capacity ≡ 0
    → Serves input first last before after → Keeps after left → ServesFromEmpty S given was left
serves_by input given first last before was after left e f empty vector no_capacity s keeps =
    let named = rw (e, f) at s in
    record {
      first = first;
      last = last;
      empty = empty;
      vector = vector;
      no_capacity = no_capacity;
      serves = record {
        lines = named.lines;
        answers = named.answers;
        all_lines = named.all_lines;
        session = named.session;
        written = Appends-kept was after left (output_of named.answers) named.written keeps;
      };
    }
