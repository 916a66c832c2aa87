-- What one step does to the form, and how often it hashes.
use Rattle.halfbrown.proofs.Common.{◌≡◌, ℕ, ◌+◌, ◌≤◌, Bool, true, false, arith, not, ◌&&◌, common_steps, Step}
use Rattle.std.proofs.Common.{◌*◌, if◌then◌else◌}
use Rattle.halfbrown.specs.Run.{step_cost, is_shrink, IsValidStep, switches}

-- the most keys that a command hashes: two, but none in a vector, and all at the switch
abbrev pub most_asked : ℕ → Bool → Bool → ℕ
most_asked limit switches is_vec = if switches then limit + 2 else if is_vec then 0 else 2

-- what is left to pay for a switch
abbrev pub switch_left : ℕ → Bool → ℕ
switch_left limit is_vec = if is_vec then limit else 0

pub switch_left_most : (limit : ℕ) (is_vec : Bool) → switch_left limit is_vec ≤ limit
switch_left_most limit is_vec = grind (arith, common_steps)

-- what leaves a vector was one and hashed nothing; in all two keys are hashed for each command, and once those of a switch
pub record PaysTwo (limit count asked : ℕ) (was is : Bool) : Type 0 where
  pub vector : is ≡ true → (was ≡ true) × (asked ≡ 0)
  pub all : asked + switch_left limit is ≤ 2 * count + switch_left limit was

module _ {K V S : Type 0} (limit : ℕ) (eq : K → K → Bool) where
  -- without `Shrink` a step leaves a vector if it found one and did not switch
  pub form_unshrunk : (s : Step K V S) → IsValidStep limit eq s → is_shrink s.command ≡ false
      → s.after.is_vec ≡ (s.before.is_vec && not (switches limit s))
  form_unshrunk s step none = grind (arith, common_steps)

  module _ (hash : S → K → ℕ) where
    pub asked_of_step : (s : Step K V S) → IsValidStep limit eq s
        → (step_cost limit eq hash s).asked ≤ most_asked limit (switches limit s) s.before.is_vec
    asked_of_step s step = grind (arith, common_steps)

    pub step_pays_two : (s : Step K V S) → IsValidStep limit eq s → is_shrink s.command ≡ false
        → PaysTwo limit 1 (step_cost limit eq hash s).asked s.before.is_vec s.after.is_vec
    step_pays_two s step none = grind (arith, common_steps, asked_of_step, form_unshrunk)
