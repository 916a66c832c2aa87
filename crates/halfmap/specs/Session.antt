-- What a session reads and writes.
use Rattle.std.specs.Prelude.{◌≡◌, ℕ, ◌==◌, true, List, [], ◌∷◌, Option, IfSome, if◌then◌else◌}
use Rattle.std.specs.Io.KnownBytes.{Appends}
use Rattle.halfbrown.specs.State.{State}
use Rattle.halfmap.specs.Answer.{AnswersLine}
use Rattle.halfmap.specs.Text.{line_of, output_of}
use Rattle.halfmap.specs.declared.answer.Answer.{Answer}
use Rattle.std.specs.declared.hash.BuildHasherDefault.{BuildHasherDefault}
use Rattle.std.specs.declared.hash.FoldHasher.{FoldHasher}

-- the builder of the program's map
abbrev pub HashBuilder : Type 0
HashBuilder = BuildHasherDefault FoldHasher

-- the byte at the front of the first line, or a line of its own if there is none
abbrev pub in_front : ℕ → List (List ℕ) → List (List ℕ)
in_front byte [] = (byte ∷ []) ∷ []
in_front byte (line ∷ lines) = (byte ∷ line) ∷ lines

-- the lines of a text, each with its LF: the last may have none, and then has at least one byte
abbrev pub lines_of : List ℕ → List (List ℕ)
lines_of [] = []
lines_of (byte ∷ text) = if byte == 10 then (byte ∷ []) ∷ lines_of text else in_front byte (lines_of text)

-- these are the answers to these lines in order, each by the map that the line before left
abbrev pub Session : {S : Type 0} → List (List ℕ) → State ℕ ℕ S → List Answer → State ℕ ℕ S → Type 0
Session [] old [] new = new ≡ old
Session [] old (answer ∷ answers) new = ⊥
Session (line ∷ lines) old [] new = ⊥
Session {S} (line ∷ lines) old (answer ∷ answers) new =
    (middle : State ℕ ℕ S) × AnswersLine line old answer middle × Session lines middle answers new

-- a line is answered by a map, and what is written grows by the answer and a LF
abbrev pub WritesAnswer : {S : Type 0} → List ℕ → State ℕ ℕ S → State ℕ ℕ S → Option (List ℕ) → Option (List ℕ) → Type 0
WritesAnswer line old new before after =
    (answer : Answer) × AnswersLine line old answer new × Appends before after (line_of answer)

-- each line of the input is answered in order by one map, and what is written grows by the answers
pub record Serves {S : Type 0} (input : Option (List ℕ)) (old new : State ℕ ℕ S) (before after : Option (List ℕ)) : Type 0 where
  pub lines : List (List ℕ)
  pub answers : List Answer
  pub all_lines : IfSome input (λ text. lines ≡ lines_of text)
  pub session : Session lines old answers new
  pub written : Appends before after (output_of answers)

-- the same by a map that begins as an empty vector without capacity
pub record ServesFromEmpty (S : Type 0) (input before after : Option (List ℕ)) : Type 0 where
  pub first : State ℕ ℕ S
  pub last : State ℕ ℕ S
  pub empty : first.pairs ≡ []
  pub vector : first.is_vec ≡ true
  pub no_capacity : first.capacity ≡ 0
  pub serves : Serves input first last before after
