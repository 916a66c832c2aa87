-- A search that goes down from the end.
use Rattle.half_store.proofs.Common.{◌≡◌, ◌≤◌, ◌+◌, ◌∙◌, arith, ℕ, ◌-◌, ◌<◌, ap, Option, subst, cases_lt, Work, compared_more}
use Rattle.std.proofs.Common.{⊎_elim, eq-or-lt_of_le}
use Rattle.half_store.specs.Work.{first_match_cost}
use Rattle.half_store.specs.Search.{IsVectorSearchCost}
use Rattle.half_store.specs.declared.vecmap.search.Scan.{Scan}

-- what holds from an index on, and of the one before it, holds from that one on
pub from_before : (P : ℕ → Type 0) (index end : ℕ) → 0 < index → ((k : ℕ) → index ≤ k → k < end → P k) → P (index - 1)
    → (k : ℕ) → index - 1 ≤ k → k < end → P k
from_before P index end some all here k from within =
    ⊎_elim (λ is. subst P is here) (λ more. all k (omega (arith, more)) within) (eq-or-lt_of_le from)

-- what holds below an index, and from it on, holds of all
pub below_and_from : (P : ℕ → Type 0) (index end : ℕ) → ((k : ℕ) → k < index → P k) → ((k : ℕ) → index ≤ k → k < end → P k)
    → (k : ℕ) → k < end → P k
below_and_from P index end below from k within = ⊎_elim (λ less. below k less) (λ not_less. from k not_less within) (cases_lt k index)

-- each key up to where the search ended was compared once
pub in_order : {scan : Scan} {found : Option ℕ} {n len : ℕ} {w after : Work} → after ≡ compared_more n w → n ≡ first_match_cost found len
    → n ≤ len → IsVectorSearchCost scan found len w after
in_order {w = w} work cost within =
    let compared = ap (λ (v : Work). v.compared) work in
    record {
      asked = ap (λ v. v.asked) work;
      at_least = omega (arith, compared, cost);
      at_most = omega (arith, compared, within);
      by_key = λ _. compared ∙ ap (λ n. w.compared + n) cost;
      looked = ap (λ v. v.looked) work;
    }
