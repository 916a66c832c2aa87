-- How lines are read.
use Rattle.std.specs.Prelude.{◌≡◌, ◌≢◌, ◌-◌, ◌≤◌, ◌<◌, ℕ, Bool, true, false, List, ◌++◌, length, take, Option, IfSome, OnSome, All, Result, Ok, IsTrue, [], ◌⊎◌}
use Rattle.std.specs.List.{list_any}
use Rattle.halfmap.specs.Line.{is_lf}
use Rattle.std.specs.Io.{StopsAt, IsEmptyOrEndsWith}
use Rattle.std.specs.Io.BufRead.{take_through, DropsThrough}
use Rattle.std.specs.Io.KnownBytes.{Consumes, IsAtEnd}
use Rattle.halfmap.specs.declared.lines.TheConstants.{KEPT_BYTES}

-- the answers are written out, or the rest of the next line is in the reader's buffer
abbrev pub IsOut : List ℕ → List ℕ → Type 0
IsOut buffered unwritten = IsTrue (list_any is_lf buffered) ⊎ (unwritten ≡ [])

-- what is kept of a line: its first bytes
abbrev pub kept : List ℕ → List ℕ
kept line = take KEPT_BYTES line

-- the kept line, and as much of these bytes as is kept too
abbrev pub with_more : List ℕ → List ℕ → List ℕ
with_more line bytes = line ++ take (KEPT_BYTES - length line) bytes

-- the first n of these bytes go on with a line: to its LF and no further, and if they do not end it, without one
pub record IsPartOfLine (bytes : List ℕ) (n : ℕ) (ended : Bool) : Type 0 where
  pub within : n ≤ length bytes
  pub some : 0 < length bytes → 0 < n
  pub stops : StopsAt (take n bytes) 10
  pub goes_on : ended ≡ false → All (λ b. b ≢ 10) (take n bytes)
  pub ends : ended ≡ true → IsEmptyOrEndsWith (take n bytes) 10

-- one step took this part of a line, and returns whether the line or the input ended with it
pub record ReadsPart {E : Type 0} (known_old known_new : Option (List ℕ)) (part : List ℕ) (result : Result Bool E) : Type 0 where
  pub consumed : Consumes known_old known_new part
  pub stops : StopsAt part 10
  pub goes_on : result ≢ Ok true → All (λ b. b ≢ 10) part
  pub ends : result ≡ Ok true → IsEmptyOrEndsWith part 10
  pub at_end : result ≡ Ok true → length part ≡ 0 → OnSome known_old (IsAtEnd known_new)

-- one step took a part of a line, and added it to the kept line
abbrev pub AddsPart : {E : Type 0} → Option (List ℕ) → Option (List ℕ) → List ℕ → List ℕ → Result Bool E → Type 0
AddsPart known_old known_new line_old line_new result =
    (part : List ℕ) × (line_new ≡ with_more line_old part) × ReadsPart known_old known_new part result

-- a whole line was taken: the known bytes up to their first LF, with it, or all of them
pub record ReadsLine (known_old known_new : Option (List ℕ)) (line : List ℕ) : Type 0 where
  pub stops : StopsAt line 10
  pub taken : IfSome known_old (λ text. line ≡ take_through 10 text)
  pub rest : DropsThrough known_old known_new 10

-- a whole line was taken, and its first bytes are kept
abbrev pub KeepsLine : Option (List ℕ) → Option (List ℕ) → List ℕ → Type 0
KeepsLine known_old known_new line =
    (whole : List ℕ) × (line ≡ kept whole) × ReadsLine known_old known_new whole

-- some bytes were taken, and the first of them are kept
abbrev pub KeepsBytes : Option (List ℕ) → Option (List ℕ) → List ℕ → Type 0
KeepsBytes known_old known_new line =
    (taken : List ℕ) × (line ≡ kept taken) × Consumes known_old known_new taken
