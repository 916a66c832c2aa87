-- What a map ends as, once a value of it that was lent to be written comes back.
use Rattle.std.specs.Prelude.{◌≡◌, ℕ, Bool, Option, ⊤}
use Rattle.std.specs.Borrow.{Fml, GName, RattleType, MutBor, Array, Lends, LendsIf, follows, follows_so}
use Rattle.std.specs.HashMap.Lent.{HashMembers}
use mathlib.Core.Option.{none}
use Rattle.halfbrown.specs.Ghosts.{HasherGhosts, LimitGhosts}
use Rattle.halfbrown.specs.Pairs.{set_value, set_value_at, set_values}
use Rattle.halfbrown.specs.State.{State, map_with_pairs}
use Rattle.halfbrown.specs.contracts.map.LimitedHashMap.{the_row}

module _ (K V S L H : RattleType) (key : HashMembers K.Denot) (build : HasherGhosts S.Denot K.Denot H.Denot) (limit : LimitGhosts L.Denot) where
  -- the map's type, as the logic holds it
  abbrev pub map_row : RattleType
  map_row = the_row K V S L H (record { eq = key.eq }) (record { hash_input = key.hash_input }) build limit

  module _ (m : MutBor (State K.Denot V.Denot S.Denot)) where
    -- the pair at this index has the last value written through the reference
    abbrev pub LendsValueAt : ℕ → MutBor V.Denot → Fml
    LendsValueAt index r = Lends map_row V m r (λ w. map_with_pairs m.now (set_value_at m.now.pairs index w))

    -- the same, and if there is no pair at this index the map stays as it is
    abbrev pub LendsValueIfWithin : ℕ → Option (MutBor V.Denot) → Fml
    LendsValueIfWithin index r = LendsIf map_row V m r (λ w. map_with_pairs m.now (set_value_at m.now.pairs index w)) m.now

    -- the pair whose key passes the test has the last value written through the reference, and if none is held the map stays as it is
    abbrev pub LendsValueIfHeld : (K.Denot → Bool) → Option (MutBor V.Denot) → Fml
    LendsValueIfHeld test r = LendsIf map_row V m r (λ w. map_with_pairs m.now (set_value test m.now.pairs w)) m.now

    -- once the loan of this name ends, the pairs have the values that were written through it, and the keys that they had; a proof knows
    -- these values if a slice was lent, and not if an iterator was
    abbrev pub LendsValues : GName → Fml
    LendsValues name = follows map_row (Array V 0) m.ghost_name name (λ vs. map_with_pairs m.now (set_values m.now.pairs vs))

    -- the map stays as it is
    abbrev pub Rests : Fml
    Rests = follows_so map_row map_row m.ghost_name none (λ _ _. ⊤) (λ n. n ≡ m.now)
