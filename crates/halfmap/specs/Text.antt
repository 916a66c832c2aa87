-- What an answer is written as.
use Rattle.std.specs.Prelude.{ℕ, List, ◌++◌, codes, decimal}
use Rattle.std.specs.List.{flat_map}
use Rattle.halfmap.specs.declared.answer.Answer.{Answer}
use Rattle.halfmap.specs.declared.answer.Answer.TheVariants.{Absent, Was, NoRoom, Value, Vector, Table, BadLine}

-- the text of an answer, with numbers in decimal and no leading zeros
abbrev pub text_of_answer : Answer → List ℕ
text_of_answer Absent = codes "none"
text_of_answer (Was value) = codes "was " ++ decimal value
text_of_answer NoRoom = codes "no room"
text_of_answer (Value value) = decimal value
text_of_answer (Vector len) = codes "vec " ++ decimal len
text_of_answer (Table len) = codes "map " ++ decimal len
text_of_answer BadLine = codes "bad line"

-- an answer as a line of output
abbrev pub line_of : Answer → List ℕ
line_of answer = text_of_answer answer ++ codes "\n"

-- the output of these answers: a line for each, in order
abbrev pub output_of : List Answer → List ℕ
output_of = flat_map line_of
