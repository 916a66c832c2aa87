-- What becomes of items that are put one after another: the keys and values of the pairs.
use Rattle.halfbrown.proofs.Common.{◌≡◌, ℕ, Bool, true, false, arith, List, [], ◌∷◌, ◌++◌, Option, Some, refl, ap, ◌∙◌, sym, subst, not, inl, inr, common_steps}
use Rattle.halfbrown.proofs.Common.{IsEquivalence, keys_of, into_iter_items, Work, TallyGrewBy, add_costs, capacity_for_insert, value_of, put, State, IsValid}
use Rattle.std.proofs.Common.{reverse}
use Rattle.std.proofs.Common.{Result, IsErr, IsErrAnd, IfErr, OnOk}
use Rattle.std.proofs.lemmas.List.{reverse-append}
use Rattle.std.specs.Option.{option_or}
use Rattle.halfbrown.specs.Collect.{put_all, collected, last_value_of, InsertsAll, Extends, Collects, InsertRefused}
use Rattle.halfbrown.specs.Collect.{CollectRefused, insertions_cost, refused_cost}
use Rattle.halfbrown.proofs.callers.Keys.{holds_by-any}
use Rattle.halfbrown.proofs.callers.Pairs.{keys_put, lookup_put}
use Rattle.halfbrown.specs.ByKey.{add_keys}
use Rattle.std.specs.Iterator.{Yields}
use Rattle.std.specs.Vec.Iter.{into_iter_steps}
use Rattle.std.specs.declared.vec.IntoIter.{IntoIter}
use Rattle.half_store.specs.declared.refusal.Refusal.{Refusal}
use Rattle.halfbrown.specs.CostRanges.{no_cost}
use Rattle.halfbrown.specs.Costs.{insert_cost}
use Rattle.halfbrown.specs.Growth.{IsRefusal}
use Rattle.halfbrown.specs.Insertion.{Puts}
use Rattle.halfbrown.specs.Making.{IsEmptyFor}
use Rattle.halfbrown.proofs.lemmas.map.Costs.{costs_assoc, none_more, more_none, spent_both}

module _ {K V : Type 0} (eq : K → K → Bool) where
  pub keys_put_all : (ps items : List (K × V)) → keys_of (put_all eq ps items) ≡ add_keys eq (keys_of ps) (keys_of items)
  keys_put_all ps [] = refl
  keys_put_all ps (p ∷ items) = grind (arith, common_steps, holds_by-any, keys_put, keys_put_all (put eq ps p.0 p.1) items)

  value_append : (ps qs : List (K × V)) (k : K) → value_of eq (ps ++ qs) k ≡ option_or (value_of eq ps k) (value_of eq qs k)
  value_append [] qs k = refl
  value_append (p ∷ ps) qs k = grind (arith, common_steps, value_append ps qs k)

  module _ (laws : IsEquivalence eq) where
    pub value_put_all : (ps items : List (K × V)) (k : K)
        → value_of eq (put_all eq ps items) k ≡ option_or (last_value_of eq items k) (value_of eq ps k)
    value_put_all ps [] k = refl
    value_put_all ps (p ∷ items) k = grind (arith, common_steps, lookup_put, reverse, reverse-append, value_append, value_put_all (put eq ps p.0 p.1) items k)

    -- each key has the value of the last of the items that has its equal
    pub values_of_collected : (items : List (K × V)) (k : K) → value_of eq (collected eq items) k ≡ last_value_of eq items k
    values_of_collected items k = grind (arith, common_steps, value_put_all [] items k)

-- Items that are inserted one after another.

-- one call of an iterator more
pub yields_more : {I X : Type 0} (steps : I → Option X → I → Type 0) (s : I) (xs : List X) (t : I) (x : X) (u : I) → Yields steps s xs t
    → steps t (Some x) u → Yields steps s (xs ++ x ∷ []) u
yields_more steps s [] t x u y next = (u, subst (λ z. steps z (Some x) u) (sym y) next, refl)
yields_more steps s (z ∷ xs) t x u y next = (y.0, y.1, yields_more steps y.0 xs t x u y.2 next)

-- a run without its last call is a run
pub yields_front : {I X : Type 0} (steps : I → Option X → I → Type 0) (s : I) (xs : List X) (x : X) (u : I)
    → Yields steps s (xs ++ x ∷ []) u → (t : I) × Yields steps s xs t
yields_front steps s [] x u y = (s, refl)
yields_front steps s (z ∷ xs) x u y = let front = yields_front steps y.0 xs x u y.2 in (front.0, (y.0, y.1, front.1))

module _ {K V S : Type 0} (limit : ℕ) (eq : K → K → Bool) where
  -- ---- what follows of the insertions

  pub inserts_pairs : (old new : State K V S) (items : List (K × V)) → InsertsAll limit eq old items new
      → new.pairs ≡ put_all eq old.pairs items
  inserts_pairs old new [] inserts = ap (λ m. m.pairs) inserts
  inserts_pairs old new (p ∷ items) inserts = grind (arith, common_steps, inserts_pairs inserts.0 new items inserts.3)

  pub inserts_builder : (old new : State K V S) (items : List (K × V)) → InsertsAll limit eq old items new → new.builder ≡ old.builder
  inserts_builder old new [] inserts = ap (λ m. m.builder) inserts
  inserts_builder old new (p ∷ items) inserts = inserts_builder inserts.0 new items inserts.3 ∙ inserts.1.builder

  pub inserts_state : (old new : State K V S) (items : List (K × V)) → InsertsAll limit eq old items new
      → IsValid limit eq old → IsValid limit eq new
  inserts_state old new [] inserts state = subst (IsValid limit eq) (sym inserts) state
  inserts_state old new (p ∷ items) inserts state = inserts_state inserts.0 new items inserts.3 inserts.2

  abbrev pub extends_of : IsEquivalence eq → (old new : State K V S) (items : List (K × V))
      → InsertsAll limit eq old items new → Extends limit eq old items new
  extends_of laws old new items inserts =
      let pairs = inserts_pairs old new items inserts in
      record {
        pairs = pairs;
        keys = ap keys_of pairs ∙ keys_put_all eq old.pairs items;
        values = λ k. ap (λ ps. value_of eq ps k) pairs ∙ value_put_all eq laws old.pairs items k;
        builder = inserts_builder old new items inserts;
        inserted = inserts;
      }

  -- ---- what they cost

  module _ (hash : S → K → ℕ) where
    -- one item more
    inserts_more : (old middle new : State K V S) (items : List (K × V)) (k : K) (v : V) (inserts : InsertsAll limit eq old items middle)
        → Puts limit eq middle k v (capacity_for_insert limit eq middle k) new → IsValid limit eq new
        → (more : InsertsAll limit eq old (items ++ (k, v) ∷ []) new) × (insertions_cost limit eq hash old (items ++ (k, v) ∷ []) new more
        ≡ add_costs (insertions_cost limit eq hash old items middle inserts) (insert_cost limit eq hash middle k true))
    inserts_more old middle new [] k v same puts state =
        let last = insert_cost limit eq hash old k true in (
          (new, subst (λ m. Puts limit eq m k v (capacity_for_insert limit eq m k) new) same puts, state, refl),
          sym (more_none last) ∙ none_more last ∙ ap (λ m. add_costs no_cost (insert_cost limit eq hash m k true)) (sym same),
        )
    inserts_more old middle new (p ∷ items) k v inserts puts state =
        let first = insert_cost limit eq hash old p.0 true in
        let rest = insertions_cost limit eq hash inserts.0 items middle inserts.3 in
        let more = inserts_more inserts.0 middle new items k v inserts.3 puts state in (
          (inserts.0, inserts.1, inserts.2, more.0),
          ap (add_costs first) more.1 ∙ costs_assoc first rest (insert_cost limit eq hash middle k true),
        )

    -- what was inserted so far
    pub record InsertsSoFar (old : State K V S) (items : List (K × V)) (now : State K V S) (before after : Work) : Type 0 where
      pub inserted : InsertsAll limit eq old items now
      pub spent : TallyGrewBy (insertions_cost limit eq hash old items now inserted) before after

    pub item_more : (old now new : State K V S) (items : List (K × V)) (k : K) (v : V) (before middle after : Work)
        → InsertsSoFar old items now before middle
        → Puts limit eq now k v (capacity_for_insert limit eq now k) new → IsValid limit eq new
        → TallyGrewBy (insert_cost limit eq hash now k true) middle after
        → InsertsSoFar old (items ++ (k, v) ∷ []) new before after
    item_more old now new items k v before middle after so_far puts state grew =
        let more = inserts_more old now new items k v so_far.inserted puts state in
        let last = insert_cost limit eq hash now k true in
        let cost = insertions_cost limit eq hash old items now so_far.inserted in
        record {
          inserted = more.0;
          spent = subst (λ cost. TallyGrewBy cost before after) (sym more.1) (spent_both cost last before middle after so_far.spent grew);
        }

    -- one item that was refused
    pub item_refused : (old now new : State K V S) (items : List (K × V)) (given : List (K × V) → Type 0) (k : K) (v : V) (why : Refusal)
        (before middle after : Work)
        → InsertsSoFar old items now before middle → given (items ++ (k, v) ∷ []) → new ≡ now → IsRefusal (capacity_for_insert limit eq now k) why
        → TallyGrewBy (insert_cost limit eq hash now k false) middle after
        → (refused : InsertRefused limit eq given old why new) × TallyGrewBy (refused_cost limit eq hash refused) before after
    item_refused old now new items given k v why before middle after so_far was_given same refused grew =
        let cost = insertions_cost limit eq hash old items now so_far.inserted in
        subst (λ m. (refused : InsertRefused limit eq given old why m) × TallyGrewBy (refused_cost limit eq hash refused) before after)
        (sym same) (
          record { before = items; key = k; value = v; were_given = was_given; inserted = so_far.inserted; refused = refused },
          spent_both cost (insert_cost limit eq hash now k false) before middle after so_far.spent grew,
        )

    -- insertions that leave a vector have hashed nothing
    pub inserts_asked : (old new : State K V S) (items : List (K × V)) (inserts : InsertsAll limit eq old items new)
        → new.is_vec ≡ true → (old.is_vec ≡ true) × ((insertions_cost limit eq hash old items new inserts).asked ≡ 0)
    inserts_asked old new [] inserts form = (sym (ap (λ m. m.is_vec) inserts) ∙ form, refl)
    inserts_asked old new (p ∷ items) inserts form = grind (arith, common_steps, not, inserts_asked inserts.0 new items inserts.3 form)

  -- ---- collections

  module _ (laws : IsEquivalence eq) (is_default : S → Type 0) (needed : ℕ) where
    abbrev pub collection_of : (made new : State K V S) (items : List (K × V)) → IsEmptyFor is_default limit needed made
        → InsertsAll limit eq made items new
        → Collects limit eq is_default needed items new
    collection_of made new items is_made inserts =
        let pairs = inserts_pairs made new items inserts ∙ ap (λ ps. put_all eq ps items) is_made.pairs in
        record {
          pairs = pairs;
          keys = ap keys_of pairs ∙ keys_put_all eq [] items;
          values = λ k. ap (λ ps. value_of eq ps k) pairs ∙ values_of_collected eq laws items k;
          builder = subst is_default (sym (inserts_builder made new items inserts)) is_made.builder;
          made = made;
          is_made = is_made;
          inserted = inserts;
        }

    -- a refusal of items, once more is known of them
    pub refusal_given : (given known : List (K × V) → Type 0) (why : Refusal)
        → ((items : List (K × V)) → given items → known items)
        → CollectRefused limit eq is_default needed given why
        → CollectRefused limit eq is_default needed known why
    refusal_given given known why also (inl refused) = inl refused
    refusal_given given known why also (inr item) =
        let i = item.insertion in
        inr (record {
          made = item.made;
          is_made = item.is_made;
          reached = item.reached;
          insertion = record {
            before = i.before;
            key = i.key;
            value = i.value;
            were_given = also (i.before ++ (i.key, i.value) ∷ []) i.were_given;
            inserted = i.inserted;
            refused = i.refused;
          };
        })

-- what the iterator of a vector gave are its first items
pub gave_first : {X Z : Type 0} (s : IntoIter X Z) (xs : List X) (t : IntoIter X Z) → Yields into_iter_steps s xs t
    → into_iter_items s ≡ xs ++ into_iter_items t
gave_first s [] t y = ap into_iter_items y
gave_first s (x ∷ xs) t y = y.1.0 ∙ ap (λ l. x ∷ l) (gave_first y.0 xs t y.2)

-- what an error says, if the result is this error
pub at_error : {A E : Type 0} (r : Result A E) (e : E) (P : Type 0) (Q : E → Type 0) → IsErr r × IsErrAnd r (λ why. why ≡ e) → Q e
    → OnOk r P × IfErr r Q
at_error r e P Q told holds = grind (arith, common_steps)

-- a map made with a builder is one made with a builder of its kind
pub made_with : {K V S : Type 0} (is_builder : S → Type 0) {b : S} {limit needed : ℕ} {m : State K V S} → is_builder b
    → IsEmptyFor (λ it. it ≡ b) limit needed m → IsEmptyFor is_builder limit needed m
made_with is_builder holds told = grind (arith, common_steps)
