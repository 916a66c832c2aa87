-- What decides the replies: form and pairs before a command, the command, and the refusal. They also decide form and pairs
-- after it.
use Rattle.half_laws.proofs.Common.{◌≡◌, ℕ, Bool, not, ◌&&◌, List, [], ◌∷◌, Option, unwrap_or, arith, ap, refl, if◌then◌else◌}
use Rattle.half_laws.proofs.Common.{common_steps, Command, Insert, InsertNew, EntryOrInsert, RawOrInsert, Remove, Clear, holds}
use Rattle.half_laws.proofs.Common.{put, swap_out, State, Step, IsValidStep, Leaves, value_or, refusal_in, is_shrink, says_vec}
use Rattle.half_laws.proofs.Common.{IsAlike, RepliesLaw, outcomes_of}
use Rattle.half_store.specs.declared.refusal.Refusal.{Refusal}
use Rattle.half_laws.proofs.lemmas.runs.Laws.{form_of_step}

module _ {K V : Type 0} (limit : ℕ) (eq : K → K → Bool) where
  -- the pairs after a granted command
  abbrev pairs_after : List (K × V) → Command K V → List (K × V)
  pairs_after pairs (Insert k v) = put eq pairs k v
  pairs_after pairs (InsertNew k v) = if holds eq pairs k then pairs else put eq pairs k v
  pairs_after pairs (EntryOrInsert k v) = put eq pairs k (value_or eq pairs k v)
  pairs_after pairs (RawOrInsert k v) = put eq pairs k (value_or eq pairs k v)
  pairs_after pairs (Remove k) = swap_out eq pairs k
  pairs_after pairs Clear = []
  pairs_after pairs command = pairs

module _ {K V S : Type 0} (limit : ℕ) (eq : K → K → Bool) where
  pairs_left : (old new : State K V S) (command : Command K V) → Leaves limit eq old command new
      → new.pairs ≡ pairs_after limit eq old.pairs command
  pairs_left old new command leaves = grind (arith, common_steps)

  step_alike : (s t : Step K V S) → IsValidStep limit eq s → IsValidStep limit eq t → IsAlike s.before t.before → s.command ≡ t.command
      → refusal_in s.reply ≡ refusal_in t.reply
      → (is_shrink s.command && says_vec s.reply) ≡ (is_shrink t.command && says_vec t.reply)
      → (s.reply ≡ t.reply) × IsAlike s.after t.after
  step_alike s t s_step t_step alike command refusal form =
      grind (arith, common_steps, pairs_left, form_of_step, not, unwrap_or)

  same_alike : (a b c d : State K V S) → IsAlike a b → c ≡ a → d ≡ b → IsAlike c d
  same_alike a b c d alike left right = record { form = cc; pairs = cc }

  same_outcome : (s t : Step K V S) (ss ts : List (Step K V S)) → outcomes_of (s ∷ ss) ≡ outcomes_of (t ∷ ts)
      → ◌≡◌ {A = Option Refusal × Bool} (refusal_in s.reply, is_shrink s.command && says_vec s.reply)
      (refusal_in t.reply, is_shrink t.command && says_vec t.reply)
  same_outcome s t ss ts same = cc same

  pub replies_law : RepliesLaw V S limit eq
  replies_law a a_new [] a_lead b b_new [] b_lead alike commands refusals = (refl, same_alike a b a_new b_new alike a_lead b_lead)
  replies_law a a_new [] a_lead b b_new (t ∷ b_steps) b_lead alike commands refusals = absurd (cc commands)
  replies_law a a_new (s ∷ a_steps) a_lead b b_new [] b_lead alike commands refusals = absurd (cc commands)
  replies_law a a_new (s ∷ a_steps) a_lead b b_new (t ∷ b_steps) b_lead alike commands refusals =
      let once = step_alike s t a_lead.1 b_lead.1 (same_alike a b s.before t.before alike a_lead.0 b_lead.0) (cc commands)
      (ap (λ outcome. outcome.0) (same_outcome s t a_steps b_steps refusals))
      (ap (λ outcome. outcome.1) (same_outcome s t a_steps b_steps refusals)) in
      let rest = replies_law s.after a_new a_steps a_lead.3 t.after b_new b_steps b_lead.3 once.1 (cc commands) (cc refusals) in
      ((λ i. once.0 i ∷ rest.0 i), rest.1)
