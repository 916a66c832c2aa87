use Rattle.std.proofs.Common.{◌≡◌, ◌<◌, ◌≤◌, ℕ, get_or, length, min}
use Rattle.half_callers.proofs.iteration.cap_all.Given as goal

-- by index: those before the next are capped, and those from it on are as they were
abbrev pub invariant-loop-value : goal.invariant-loop-value
invariant-loop-value g l =
    let xs = l.initial.value-items in
    (length l.value-items ≡ length xs)
    × ((k : ℕ) → k < l.value-index → get_or l.value-items k 0 ≡ min (get_or xs k 0) l.most)
    × ((k : ℕ) → l.value-index ≤ k → get_or l.value-items k 0 ≡ get_or xs k 0)
