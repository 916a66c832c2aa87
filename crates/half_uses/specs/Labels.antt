-- How a set of labels prints, its number, which does not depend on their order, and sums by key.
use Rattle.std.specs.Prelude.{ℕ, ◌+◌, ◌^◌, ◌%◌, [], ◌∷◌, ◌++◌, Bool, List, codes, fold, string_bytes, sum_by, unwrap_or}
use Rattle.std.specs.Hash as fed
use Rattle.std.specs.Hash.FoldHasher.{initial, write, finish}
use Rattle.std.specs.List.{flat_map}
use Rattle.std.specs.declared.alloc.Global.{Global}
use Rattle.std.specs.declared.string.String.{String}
use Rattle.halfbrown.specs.Pairs.{value_of, put}

-- how a label prints: its name, `=`, and its text
abbrev pub label_text : String Global × String Global → List ℕ
label_text label = string_bytes label.0 ++ (codes "=" ++ string_bytes label.1)

-- how labels print that follow one: after a comma and a space each
abbrev pub others_text : List (String Global × String Global) → List ℕ
others_text = flat_map (λ label. codes ", " ++ label_text label)

-- how labels print
abbrev pub labels_text : List (String Global × String Global) → List ℕ
labels_text [] = []
labels_text (label ∷ others) = label_text label ++ others_text others

-- what a name and its text hash to
abbrev pub label_hash : String Global × String Global → ℕ
label_hash label = finish (fold write initial (fed.str (string_bytes label.0) ++ fed.str (string_bytes label.1)))

-- the lowest 64 bits of the sum of these
abbrev pub labels_number : List (String Global × String Global) → ℕ
labels_number labels = sum_by label_hash labels % 2 ^ 64

-- the sums once a value is added to that of a key, which is 0 if the key is new
abbrev pub with_more : {K : Type 0} → (K → K → Bool) → List (K × ℕ) → K → ℕ → List (K × ℕ)
with_more eq sums k value = put eq sums k (unwrap_or (value_of eq sums k) 0 + value)
