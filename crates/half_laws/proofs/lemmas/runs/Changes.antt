-- What a step does to pairs and capacity: it puts a pair, or keeps the capacity and adds none, or shrinks. `Reserve` is left
-- out.
use Rattle.half_laws.proofs.Common.{◌≡◌, ℕ, ◌+◌, ◌≤◌, ◌⊎◌, inl, inr, Bool, true, false, length, Option, None, Some, arith}
use Rattle.half_laws.proofs.Common.{if◌then◌else◌, common_steps, IfSome, Command, InsertNew, capacity_for_growth}
use Rattle.half_laws.proofs.Common.{capacity_for_new_key, capacity_for_insert, is_full, IsShrunk, holds, State, Step, Executes}
use Rattle.half_laws.proofs.Common.{IsValidStep, Leaves, is_shrink, len_taken, is_reserve}
use Rattle.std.specs.Prelude.{MatchBool}
use Rattle.std.proofs.lemmas.Bool.Decides.{nat_tests}
use Rattle.halfbrown.specs.declared.run.Reply.{Reply}
use Rattle.halfbrown.specs.declared.run.Reply.TheVariants.{Refused}
use Rattle.halfbrown.specs.Insertion.{Puts}

module _ {K V S : Type 0} where
  -- capacity is asked only for one pair more, and only if none is left
  abbrev pub IsDue : State K V S → Option ℕ → Type 0
  IsDue m needs = IfSome needs (λ n. (n ≡ length m.pairs + 1) × (m.capacity ≤ length m.pairs))

  addition_due : (m : State K V S) → IsDue m (capacity_for_growth m)
  addition_due m = grind (arith, common_steps, nat_tests)

  held_due : (m : State K V S) (held : Bool) → IsDue m (if held then None else capacity_for_growth m)
  held_due m true = tt
  held_due m false = addition_due m

module _ {K V S : Type 0} (limit : ℕ) (eq : K → K → Bool) where
  -- a pair is put, with as much capacity as is due, or as the switch needs
  pub record PutsDue (old new : State K V S) : Type 0 where
    pub key : K
    pub value : V
    pub needs : Option ℕ
    pub due : IsDue old needs
    pub puts : Puts limit eq old key value (if is_full limit old then Some (limit + 1) else needs) new

  -- form and capacity stay, and no pair is added
  pub record Keeps (old new : State K V S) : Type 0 where
    pub form : new.is_vec ≡ old.is_vec
    pub capacity : new.capacity ≡ old.capacity
    pub len : length new.pairs ≤ length old.pairs

  abbrev pub Changes : State K V S → Command K V → State K V S → Type 0
  Changes old command new = PutsDue old new ⊎ (Keeps old new ⊎ ((is_shrink command ≡ true) × IsShrunk limit old new))

  keeps_all : (old new : State K V S) → new ≡ old → Keeps old new
  keeps_all old new same = grind (arith, common_steps)

  puts_due : (old new : State K V S) (k : K) (v : V) (needs : Option ℕ) → IsDue old needs
      → Puts limit eq old k v (if is_full limit old then Some (limit + 1) else needs) new → PutsDue old new
  puts_due old new k v needs due puts = record { key = k; value = v; needs = needs; due = due; puts = puts }

  -- by an insertion of k, and of a new key
  puts_any : (old new : State K V S) (k : K) (v : V) → Puts limit eq old k v (capacity_for_insert limit eq old k) new → PutsDue old new
  puts_any old new k v =
      puts_due old new k v (if holds eq old.pairs k then None else capacity_for_growth old) (held_due old (holds eq old.pairs k))

  puts_new : (old new : State K V S) (k : K) (v : V) → Puts limit eq old k v (capacity_for_new_key limit old) new → PutsDue old new
  puts_new old new k v = puts_due old new k v (capacity_for_growth old) (addition_due old)

  held_changes : (old new : State K V S) (k : K) (v : V) (held : Bool)
      → MatchBool held (new ≡ old) (Puts limit eq old k v (capacity_for_new_key limit old) new) → Changes old (InsertNew k v) new
  held_changes old new k v true leaves = inr (inl (keeps_all old new leaves))
  held_changes old new k v false leaves = inl (puts_new old new k v leaves)

  leaves_changed : (old new : State K V S) (command : Command K V) → is_reserve command ≡ false → Leaves limit eq old command new
      → Changes old command new
  leaves_changed old new command none leaves =
      grind (arith, common_steps, held_changes, keeps_all, len_taken, puts_any, puts_new)

  changes_by : (old new : State K V S) (command : Command K V) (reply : Reply K V) → Executes limit eq old command reply new
      → is_reserve command ≡ false → Changes old command new
  changes_by old new command (Refused back why) step none = inr (inl (keeps_all old new step.2))
  changes_by old new command reply step none = leaves_changed old new command none step.1

  pub step_changes : (s : Step K V S) → IsValidStep limit eq s → is_reserve s.command ≡ false → Changes s.before s.command s.after
  step_changes s step none = changes_by s.before s.after s.command s.reply step none
