-- What holds of every run: what becomes of the form, what decides the replies, how often keys are hashed, how much capacity is
-- left and how many pairs are moved. Runs can also be split and joined.
use Rattle.std.specs.Prelude.{◌≡◌, ℕ, ◌+◌, ◌*◌, ◌≤◌, max, Bool, true, false, not, ◌&&◌, ◌==◌, List, ◌++◌, length, map, fold, sum_by, count_by, Option, None, Some, unwrap_or, if◌then◌else◌}
use Rattle.std.specs.List.{list_any}
use Rattle.std.specs.Option.{option_or}
use Rattle.half_store.specs.declared.refusal.Refusal.{Refusal}
use Rattle.halfbrown.specs.declared.run.Command.{Command}
use Rattle.halfbrown.specs.declared.run.Command.TheVariants.{Reserve}
use Rattle.halfbrown.specs.declared.run.Reply.{Reply}
use Rattle.halfbrown.specs.CostRanges.{Cost, add_costs}
use Rattle.half_store.specs.Arrays.{bytes}
use Rattle.halfbrown.specs.declared.run.Reply.TheVariants.{Form}
use Rattle.halfbrown.specs.Run.{StepsLead, Runs, has_shrink, commands_of, replies_of, cost_of, Step, refusal_in, is_shrink, switches}
use Rattle.halfbrown.specs.State.{State, IsValid}

-- whether the command is `Reserve`
abbrev pub is_reserve : {K V : Type 0} → Command K V → Bool
is_reserve (Reserve additional) = true
is_reserve command = false

-- whether `Reserve` is among the commands
abbrev pub has_reserve : {K V : Type 0} → List (Command K V) → Bool
has_reserve commands = list_any is_reserve commands

-- whether the reply is that the form is the vector
abbrev pub says_vec : {K V : Type 0} → Reply K V → Bool
says_vec (Form is_vec) = is_vec
says_vec reply = false

-- two states have the same form, and the same pairs in the same order
pub record IsAlike {K V S : Type 0} (a b : State K V S) : Type 0 where
  pub form : a.is_vec ≡ b.is_vec
  pub pairs : a.pairs ≡ b.pairs

module _ {K V S : Type 0} where
  -- whether the step made a table a vector: it is a `Shrink`, and says so
  abbrev pub goes_back : Step K V S → Bool
  goes_back s = is_shrink s.command && not s.before.is_vec && says_vec s.reply

  -- whether the form is the vector after a step that changed it; none if the step did not
  abbrev pub form_changed : ℕ → Step K V S → Option Bool
  form_changed limit s = if switches limit s then Some false else if goes_back s then Some true else None

  -- whether the form is the vector after the last step that changed it; none if no step did
  abbrev pub last_change : ℕ → List (Step K V S) → Option Bool
  last_change limit steps = fold (λ earlier s. option_or (form_changed limit s) earlier) None steps

  -- what memory decided in each step: whether it was refused, and why, and whether a `Shrink` left a vector
  abbrev pub outcomes_of : List (Step K V S) → List (Option Refusal × Bool)
  outcomes_of steps = map (λ s. (refusal_in s.reply, is_shrink s.command && says_vec s.reply)) steps

  -- the most pairs that the map held at once
  abbrev pub most_held : State K V S → List (Step K V S) → ℕ
  most_held old steps = fold (λ most s. max most (length s.after.pairs)) (length old.pairs) steps

  -- the pairs that growth or the switch moved in a step: all that were held, if the capacity changed; nothing else is counted
  abbrev pub moved : Step K V S → ℕ
  moved s = if s.after.capacity == s.before.capacity then 0 else length s.before.pairs

module _ {K : Type 0} (V S : Type 0) (limit : ℕ) (eq : K → K → Bool) where
  -- this holds of each run: of any steps, and of the maps from which and to which they lead
  abbrev pub EachRun : (State K V S → List (Step K V S) → State K V S → Type 0) → Type 0
  EachRun Holds = (old new : State K V S) (steps : List (Step K V S)) → StepsLead limit eq old steps new → Holds old steps new

  -- the form at the end of a run is the one that the last step that changed it left, and the first one if none did
  abbrev pub FormLaw : Type 0
  FormLaw = EachRun (λ old steps new. new.is_vec ≡ unwrap_or (last_change limit steps) old.is_vec)

  -- a run without `Shrink` ends with a vector exactly if it began with one and put no pair into a full one
  abbrev pub SwitchLaw : Type 0
  SwitchLaw = EachRun (λ old steps new. has_shrink (commands_of steps) ≡ false
      → new.is_vec ≡ (old.is_vec && not (list_any (switches limit) steps)))

  -- without `Shrink`: once a table, always a table
  abbrev pub TableLaw : Type 0
  TableLaw = EachRun (λ old steps new. has_shrink (commands_of steps) ≡ false → old.is_vec ≡ false → new.is_vec ≡ false)

  -- without `Shrink` a vector becomes a table once at most
  abbrev pub OneSwitchLaw : Type 0
  OneSwitchLaw = EachRun (λ old steps new. has_shrink (commands_of steps) ≡ false → count_by (switches limit) steps ≤ 1)

  -- let two runs of the same commands begin in states that are alike, be refused the same commands for the same reasons, and
  -- have the same form after each `Shrink`. Then they have the same replies and end in states that are alike: capacity,
  -- builder, hashes and history decide nothing
  abbrev pub RepliesLaw : Type 0
  RepliesLaw = EachRun (λ a a_steps a_new. EachRun (λ b b_steps b_new. IsAlike a b
      → commands_of a_steps ≡ commands_of b_steps → outcomes_of a_steps ≡ outcomes_of b_steps
      → (replies_of a_steps ≡ replies_of b_steps) × IsAlike a_new b_new))

  -- without `Reserve` a map has a capacity of at most `max(start, 2 × peak + 8)`, if it held at most `peak` pairs at once
  abbrev pub CapacityLaw : Type 0
  CapacityLaw = EachRun (λ old steps new. IsValid limit eq old → has_reserve (commands_of steps) ≡ false
      → new.capacity ≤ max old.capacity (2 * most_held old steps + 8))

  -- so its arrays, and the block of its table, take at most the bytes of a table with that capacity, whatever bytes a key and a
  -- value have
  abbrev pub BytesLaw : Type 0
  BytesLaw = EachRun (λ old steps new. IsValid limit eq old → has_reserve (commands_of steps) ≡ false → (key value : ℕ)
      → let most : ℕ = max old.capacity (2 * most_held old steps + 8) in
      bytes key value new.is_vec new.capacity ≤ bytes key value false most)

  -- without `Shrink` and `Reserve` a run moves at most two pairs for each command, and once those that it began with and twice
  -- the limit
  abbrev pub MovesLaw : Type 0
  MovesLaw = EachRun (λ old steps new. IsValid limit eq old → has_shrink (commands_of steps) ≡ false
      → has_reserve (commands_of steps) ≡ false → sum_by moved steps ≤ 2 * length steps + (length old.pairs + 2 * limit))

  module _ (hash : S → K → ℕ) where
    -- a run that begins with a vector and puts no pair into a full one ends with a vector, and has hashed nothing
    abbrev pub UnswitchedLaw : Type 0
    UnswitchedLaw = EachRun (λ old steps new. old.is_vec ≡ true → list_any (switches limit) steps ≡ false
        → (new.is_vec ≡ true) × ((cost_of limit eq hash steps).asked ≡ 0))

    -- a run without `Shrink` that ends with a vector has hashed nothing
    abbrev pub NothingHashedLaw : Type 0
    NothingHashedLaw = EachRun (λ old steps new. has_shrink (commands_of steps) ≡ false → new.is_vec ≡ true
        → (cost_of limit eq hash steps).asked ≡ 0)

    -- a run hashes at most two keys for each command, and the limit's number of keys for each switch
    abbrev pub HashesLaw : Type 0
    HashesLaw = EachRun (λ old steps new. (cost_of limit eq hash steps).asked ≤ 2 * length steps + limit * count_by (switches limit) steps)

    -- so without `Shrink` a run hashes at most two keys for each command, and the limit's number of keys once
    abbrev pub AmortizedHashesLaw : Type 0
    AmortizedHashesLaw = EachRun (λ old steps new. has_shrink (commands_of steps) ≡ false
        → (cost_of limit eq hash steps).asked ≤ 2 * length steps + limit)

module _ {K V S : Type 0} (limit : ℕ) (eq : K → K → Bool) (hash : S → K → ℕ) where
  -- a run whose steps together have this cost
  pub record RunsAtCost (old : State K V S) (commands : List (Command K V)) (replies : List (Reply K V)) (new : State K V S)
      (cost : Cost) : Type 0 where
    pub run : Runs limit eq old commands replies new
    pub cost_is : cost ≡ cost_of limit eq hash run.steps

  -- from old to new the first commands run, and then the second ones; the replies are those of both, and the cost is their sum
  pub record RunsInTwo (old : State K V S) (first second : List (Command K V)) (replies : List (Reply K V)) (new : State K V S)
      (cost : Cost) : Type 0 where
    pub between : State K V S
    pub first_replies : List (Reply K V)
    pub second_replies : List (Reply K V)
    pub first_cost : Cost
    pub second_cost : Cost
    pub first_runs : RunsAtCost old first first_replies between first_cost
    pub second_runs : RunsAtCost between second second_replies new second_cost
    pub replies_are : replies ≡ first_replies ++ second_replies
    pub cost_is : cost ≡ add_costs first_cost second_cost

module _ {K : Type 0} (V : Type 0) {S : Type 0} (limit : ℕ) (eq : K → K → Bool) (hash : S → K → ℕ) where
  -- a run of commands in two parts is a run of each part
  abbrev pub SplitLaw : Type 0
  SplitLaw = (old : State K V S) (first second : List (Command K V)) (replies : List (Reply K V)) (new : State K V S) (cost : Cost)
      → RunsAtCost limit eq hash old (first ++ second) replies new cost → RunsInTwo limit eq hash old first second replies new cost

  -- and if the second begins with the map that the first left, both are one run
  abbrev pub JoinLaw : Type 0
  JoinLaw = (old : State K V S) (first second : List (Command K V)) (replies : List (Reply K V)) (new : State K V S) (cost : Cost)
      → RunsInTwo limit eq hash old first second replies new cost → RunsAtCost limit eq hash old (first ++ second) replies new cost
