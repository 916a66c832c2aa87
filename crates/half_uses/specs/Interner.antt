-- Texts with numbers, as the list of the texts in the order of their numbers.
use Rattle.std.specs.Prelude.{ℕ, List, [], ◌∷◌, ◌++◌, Option, bytes_eq, is_some, if◌then◌else◌}
use Rattle.halfbrown.specs.Pairs.{index_of}

-- the number of a text: the place of the first text that equals it
abbrev pub number_of : List (List ℕ) → List ℕ → Option ℕ
number_of texts text = index_of (bytes_eq text) texts

-- these texts and this one: it comes last, unless it is among them
abbrev pub with_text : List (List ℕ) → List ℕ → List (List ℕ)
with_text texts text = if is_some (number_of texts text) then texts else texts ++ text ∷ []
