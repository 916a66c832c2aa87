-- What the test builders answer.
use Rattle.std.specs.Prelude.{ℕ, ◌+◌, ◌-◌, ◌*◌, ◌/◌, ◌^◌, List, fold}
use Rattle.test_support.specs.declared.builders.Rule.{Rule}
use Rattle.test_support.specs.declared.builders.Rule.TheVariants.{Plain, Zero, Top}

-- a word of 64 bits into which bytes are shifted from above: after eight bytes, the number that they write lowest first
abbrev pub shifted : ℕ → List ℕ → ℕ
shifted word bytes = fold (λ n byte. n / 256 + byte * 2 ^ 56) word bytes

-- the hash of a key whose number this is
abbrev pub hash_by : Rule → ℕ → ℕ
hash_by Plain n = n
hash_by Zero n = 0
hash_by Top n = 2 ^ 64 - 1
