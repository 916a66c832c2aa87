-- What a transfer between accounts does, and why it is declined.
use Rattle.std.specs.Prelude.{◌≡◌, ℕ, ◌+◌, ◌-◌, ◌<◌, Bool, true, false, ◌&&◌, List, unwrap_or}
use Rattle.halfbrown.specs.Pairs.{value_of, holds, set_value}
use Rattle.half_uses.specs.declared.bank.Declined.{Declined}
use Rattle.half_uses.specs.declared.bank.Declined.TheVariants.{Unknown, TooLittle}

module _ {A : Type 0} (eq : A → A → Bool) where
  -- the balance of an account, or nothing if there is none
  abbrev pub balance_of : List (A × ℕ) → A → ℕ
  balance_of accounts a = unwrap_or (value_of eq accounts a) 0

  -- the accounts once an amount has gone from one to another
  abbrev pub moved : List (A × ℕ) → A → A → ℕ → List (A × ℕ)
  moved accounts from to amount =
      let left = set_value (eq from) accounts (balance_of accounts from - amount) in
      set_value (eq to) left (balance_of left to + amount)

  -- whether there are both of these accounts
  abbrev pub are_known : List (A × ℕ) → A → A → Bool
  are_known accounts from to = holds eq accounts from && holds eq accounts to

  -- why an amount was not moved
  abbrev pub IsDeclined : List (A × ℕ) → A → A → ℕ → Declined → Type 0
  IsDeclined accounts from to amount Unknown = are_known accounts from to ≡ false
  IsDeclined accounts from to amount TooLittle = (are_known accounts from to ≡ true) × (balance_of accounts from < amount)
