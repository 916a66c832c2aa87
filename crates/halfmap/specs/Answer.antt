-- What a request is answered.
use Rattle.std.specs.Prelude.{◌≡◌, ℕ, List, nat_eq, Option, Some, None, IsSome, ◌⊎◌, length, if◌then◌else◌}
use Rattle.halfbrown.specs.Growth.{capacity_for_insert}
use Rattle.halfbrown.specs.Insertion.{Puts}
use Rattle.halfbrown.specs.Pairs.{value_of, swap_out}
use Rattle.halfbrown.specs.State.{State, WithPairs}
use Rattle.halfmap.specs.Line.{IsTextOfLine}
use Rattle.halfmap.specs.Request.{IsTextOf}
use Rattle.halfmap.specs.declared.answer.Answer.{Answer}
use Rattle.halfmap.specs.declared.answer.Answer.TheVariants.{Absent, Was, NoRoom, Value, Vector, Table, BadLine}
use Rattle.halfmap.specs.declared.request.Request.{Request}
use Rattle.halfmap.specs.declared.request.Request.TheVariants.{Insert, Get, Remove, Form}

-- the answer to what was held before
abbrev pub was : Option ℕ → Answer
was None = Absent
was (Some value) = Was value

-- the answer to what is held
abbrev pub found : Option ℕ → Answer
found None = Absent
found (Some value) = Value value

-- the most pairs that the program's map holds in a vector
abbrev pub limit : ℕ
limit = 5

-- what a request is answered, and what it makes of the map: an insertion is the map's, and may be refused if it needs more
-- capacity
abbrev pub IsAnswerTo : {S : Type 0} → Request → State ℕ ℕ S → Answer → State ℕ ℕ S → Type 0
IsAnswerTo (Insert k v) old answer new =
    ((answer ≡ NoRoom) × IsSome (capacity_for_insert limit nat_eq old k) × (new ≡ old))
    ⊎ ((answer ≡ was (value_of nat_eq old.pairs k)) × Puts limit nat_eq old k v (capacity_for_insert limit nat_eq old k) new)
IsAnswerTo (Get k) old answer new = (answer ≡ found (value_of nat_eq old.pairs k)) × (new ≡ old)
IsAnswerTo (Remove k) old answer new =
    (answer ≡ was (value_of nat_eq old.pairs k)) × WithPairs old (swap_out nat_eq old.pairs k) new
IsAnswerTo Form old answer new =
    (answer ≡ (if old.is_vec then Vector (length old.pairs) else Table (length old.pairs))) × (new ≡ old)

-- what a line is answered, and what it makes of the map: what the request does that its text writes. A text that writes none is
-- answered `bad line`, and nothing changes
abbrev pub AnswersLine : {S : Type 0} → List ℕ → State ℕ ℕ S → Answer → State ℕ ℕ S → Type 0
AnswersLine line old answer new =
    (text : List ℕ) × IsTextOfLine line text
    × (((request : Request) × IsTextOf request text × IsAnswerTo request old answer new)
    ⊎ (((request : Request) → ¬ (IsTextOf request text)) × (answer ≡ BadLine) × (new ≡ old)))
