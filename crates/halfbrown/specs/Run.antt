-- What one command replies and does; and whole runs, lists of such steps.
use Rattle.std.specs.Prelude.{◌≡◌, ℕ, Bool, if◌then◌else◌, List, [], ◌∷◌, map, true, false, ◌&&◌, length, Option, None, Some, is_none, unwrap_or, MatchBool}
use Rattle.std.specs.List.{list_any}
use Rattle.halfbrown.specs.declared.run.Command.{Command}
use Rattle.halfbrown.specs.declared.run.Command.TheVariants.{Insert, InsertNew, EntryOrInsert, RawOrInsert, Get, Remove, Clear, Reserve, Shrink, IsVec, Len}
use Rattle.halfbrown.specs.declared.run.Reply.{Reply}
use Rattle.halfbrown.specs.State.{State, IsValid, WithPairs}
use Rattle.halfbrown.specs.CostRanges.{Cost, no_cost, add_costs, TallyGrewBy}
use Rattle.halfbrown.specs.Costs.{key_search_cost, insert_cost, raw_insert_cost, new_key_cost}
use Rattle.halfbrown.specs.Pairs.{holds, value_of, stored_pair_of, swap_out}
use Rattle.half_store.specs.Work.{Work}
use Rattle.halfbrown.specs.declared.run.Reply.TheVariants.{Was, Added, Present, Value, Found, Removed, Done, Form, Length, Refused}
use Rattle.halfbrown.specs.Growth.{is_full, capacity_for_insert, capacity_for_new_key, capacity_for_reserve, Refusal, IsRefusal, IsReserved, ShrinksOrStays}
use Rattle.halfbrown.specs.Insertion.{Puts}

-- the value of k if it is held, otherwise v: putting it changes no pair that is held
abbrev pub value_or : {K V : Type 0} → (K → K → Bool) → List (K × V) → K → V → V
value_or eq pairs k v = unwrap_or (value_of eq pairs k) v

-- the reply to a granted command: the form after it and the pairs before it, in order, decide it
abbrev pub granted_reply : {K V : Type 0} → (K → K → Bool) → Bool → List (K × V) → Command K V → Reply K V
granted_reply eq is_vec pairs (Insert k v) = Was (value_of eq pairs k)
granted_reply eq is_vec pairs (InsertNew k v) = if holds eq pairs k then Present k v else Added
granted_reply eq is_vec pairs (EntryOrInsert k v) = Value (value_or eq pairs k v)
granted_reply eq is_vec pairs (RawOrInsert k v) = Value (value_or eq pairs k v)
granted_reply eq is_vec pairs (Get k) = Found (value_of eq pairs k)
granted_reply eq is_vec pairs (Remove k) = Removed (stored_pair_of eq pairs k)
granted_reply eq is_vec pairs Clear = Done
granted_reply eq is_vec pairs (Reserve additional) = Done
granted_reply eq is_vec pairs Shrink = Form is_vec
granted_reply eq is_vec pairs IsVec = Form is_vec
granted_reply eq is_vec pairs Len = Length (length pairs)

module _ {K V S : Type 0} (limit : ℕ) (eq : K → K → Bool) where
  -- the capacity that the command needs, if it needs more
  abbrev pub capacity_for_command : State K V S → Command K V → Option ℕ
  capacity_for_command m (Insert k v) = capacity_for_insert limit eq m k
  capacity_for_command m (InsertNew k v) = if holds eq m.pairs k then None else capacity_for_new_key limit m
  capacity_for_command m (EntryOrInsert k v) = capacity_for_insert limit eq m k
  capacity_for_command m (RawOrInsert k v) = capacity_for_new_key limit m
  capacity_for_command m (Reserve additional) = capacity_for_reserve limit m additional
  capacity_for_command m command = None

  -- what a granted command leaves
  abbrev pub Leaves : State K V S → Command K V → State K V S → Type 0
  Leaves old (Insert k v) new = Puts limit eq old k v (capacity_for_insert limit eq old k) new
  Leaves old (InsertNew k v) new = MatchBool (holds eq old.pairs k) (new ≡ old) (Puts limit eq old k v (capacity_for_new_key limit old) new)
  Leaves old (EntryOrInsert k v) new = Puts limit eq old k (value_or eq old.pairs k v) (capacity_for_insert limit eq old k) new
  Leaves old (RawOrInsert k v) new = Puts limit eq old k (value_or eq old.pairs k v) (capacity_for_new_key limit old) new
  Leaves old (Remove k) new = WithPairs old (swap_out eq old.pairs k) new
  Leaves old Clear new = WithPairs old [] new
  Leaves old (Reserve additional) new = IsReserved limit old additional new
  Leaves old Shrink new = ShrinksOrStays limit old new
  Leaves old command new = new ≡ old

  -- from old, the command may have this reply and leave new: a refused command comes back, with the reason, and has changed nothing
  abbrev pub Executes : State K V S → Command K V → Reply K V → State K V S → Type 0
  Executes old command (Refused back why) new = (back ≡ command) × IsRefusal (capacity_for_command old command) why × (new ≡ old)
  Executes old command reply new = (reply ≡ granted_reply eq new.is_vec old.pairs command) × Leaves old command new

-- the reason, if the reply is a refusal
abbrev pub refusal_in : {K V : Type 0} → Reply K V → Option Refusal
refusal_in (Refused command why) = Some why
refusal_in reply = None

-- whether the reply is that of a granted command
abbrev pub is_granted : {K V : Type 0} → Reply K V → Bool
is_granted reply = is_none (refusal_in reply)

-- whether the reply says that a pair was put
abbrev pub says_put : {K V : Type 0} → Reply K V → Bool
says_put (Was before) = true
says_put Added = true
says_put (Value value) = true
says_put reply = false

-- whether the command is `Shrink`
abbrev pub is_shrink : {K V : Type 0} → Command K V → Bool
is_shrink Shrink = true
is_shrink command = false

-- one command of a run: the map before it, the command, its reply, and the map after it
pub record Step (K V S : Type 0) : Type 0 where
  pub before : State K V S
  pub command : Command K V
  pub reply : Reply K V
  pub after : State K V S

module _ {K V S : Type 0} (limit : ℕ) where
  -- the step is one that its command may take
  abbrev pub IsValidStep : (K → K → Bool) → Step K V S → Type 0
  IsValidStep eq s = Executes limit eq s.before s.command s.reply s.after

  -- whether the step put a pair into a full vector, and so made it a table
  abbrev pub switches : Step K V S → Bool
  switches s = says_put s.reply && is_full limit s.before

-- whether `Shrink` is among the commands
abbrev pub has_shrink : {K V : Type 0} → List (Command K V) → Bool
has_shrink commands = list_any is_shrink commands

module _ {K V S : Type 0} where
  -- the commands of the steps, in order
  abbrev pub commands_of : List (Step K V S) → List (Command K V)
  commands_of steps = map (λ s. s.command) steps

  -- the replies of the steps, in order
  abbrev pub replies_of : List (Step K V S) → List (Reply K V)
  replies_of steps = map (λ s. s.reply) steps

module _ {K V S : Type 0} (limit : ℕ) (eq : K → K → Bool) where
  -- the steps lead from old to new: each begins where the last ended, is one its command may take, and leaves what holds of every map
  abbrev pub StepsLead : State K V S → List (Step K V S) → State K V S → Type 0
  StepsLead old [] new = new ≡ old
  StepsLead old (s ∷ steps) new = (s.before ≡ old) × IsValidStep limit eq s × IsValid limit eq s.after × StepsLead s.after steps new

  -- there are steps that lead from old to new, and have these commands and these replies
  pub record Runs (old : State K V S) (commands : List (Command K V)) (replies : List (Reply K V)) (new : State K V S) : Type 0 where
    pub steps : List (Step K V S)
    pub lead : StepsLead old steps new
    pub commands_are : commands ≡ commands_of steps
    pub replies_are : replies ≡ replies_of steps

  module _ (hash : S → K → ℕ) where
    -- what a command costs on a map, by whether it was granted
    abbrev pub command_cost : State K V S → Command K V → Bool → Cost
    command_cost m (Insert k v) granted = insert_cost limit eq hash m k granted
    command_cost m (InsertNew k v) granted =
        add_costs (key_search_cost eq hash m k) (if holds eq m.pairs k then no_cost else new_key_cost limit eq hash m k granted)
    command_cost m (EntryOrInsert k v) granted = insert_cost limit eq hash m k granted
    command_cost m (RawOrInsert k v) granted = raw_insert_cost limit eq hash m k granted
    command_cost m (Get k) granted = key_search_cost eq hash m k
    command_cost m (Remove k) granted = key_search_cost eq hash m k
    command_cost m command granted = no_cost

    -- from old, the command may have this reply and leave new, and the work grew by what it costs
    pub record ExecutesAtCost (old : State K V S) (command : Command K V) (reply : Reply K V) (new : State K V S) (before after : Work) : Type 0 where
      pub step : Executes limit eq old command reply new
      pub cost : TallyGrewBy (command_cost old command (is_granted reply)) before after

    -- what a step costs
    abbrev pub step_cost : Step K V S → Cost
    step_cost s = command_cost s.before s.command (is_granted s.reply)

    -- what the steps cost together
    abbrev pub cost_of : List (Step K V S) → Cost
    cost_of [] = no_cost
    cost_of (s ∷ steps) = add_costs (step_cost s) (cost_of steps)
