-- Members that are put one after another.
use Rattle.json_value.proofs.Common.{◌≡◌, Result, Ok, Err, IfErr, IsErrAnd, true, refl, rules, sym, subst, is_object, PutsFirst}
use Rattle.json_value.proofs.Common.{IsRefusedMerge, Value, the_lemmas, Object, Memory}
use Rattle.json_value.specs.Members.{members_of}
use Rattle.json_value.proofs.Writing.{Members}
use Rattle.json_value.specs.declared.value.error.Error.{Error}

-- an error that is one, and what holds besides
pub err_also : {A E : Type 0} (P : E → Type 0) (Q : Type 0) (r : Result A E) → IsErrAnd r P → Q → IfErr r (λ e. P e × Q)
err_also P Q (Ok x) is also = tt
err_also P Q (Err e) is also = (is, also)

module _ (m : Members) where
  members_of-Object : members_of (Object m) ≡ m.pairs
  members_of-Object = search (rules, the_lemmas)

  is_object-Object : is_object (Object m) ≡ true
  is_object-Object = search (rules, the_lemmas)

-- a merge of two objects that is refused
pub merge_refused : {A : Type 0} (r : Result A Error) (m others n : Members) (old other new : Value) → old ≡ Object m → other ≡ Object others
    → new ≡ Object n → IfErr r (λ e. (e ≡ Memory) × PutsFirst m.pairs others.pairs n.pairs) → IfErr r (λ e. IsRefusedMerge e old other new)
merge_refused (Ok x) m others n old other new is others_are after refused = tt
merge_refused (Err e) m others n old other new is others_are after refused =
    subst (λ e. IsRefusedMerge e old other new) (sym refused.0)
    (rw (is, others_are, after, is_object-Object m, is_object-Object others, members_of-Object m, members_of-Object others, members_of-Object n)
    (refl, refused.1))
