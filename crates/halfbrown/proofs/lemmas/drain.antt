-- What each step of a `Drain` gives and leaves, along a run.
use Rattle.halfbrown.proofs.Common.{◌≡◌, length, arith, List, [], ◌∷◌, refl, ap, subst, common_steps, StoreState}
use mathlib.Core.HLevel.{is_prop→PathP}
use Rattle.std.proofs.Props.{props}
use Rattle.std.proofs.iter.runs.Sources.{as_is, from_front}
use Rattle.std.specs.Iterator.{Yields}
use Rattle.half_store.specs.Capacity.{IsFormCapacity}
use Rattle.std.specs.Iterator.Runs.{YieldsInOrder}
use Rattle.halfbrown.specs.Drain.{DrainsSameMap, DrainSteps, pairs_to_come}
use Rattle.halfbrown.specs.declared.drain.Drain.{Drain}
use Rattle.halfbrown.specs.Ghosts.{EqGhosts, HashGhosts, HasherGhosts, LimitGhosts}
use Rattle.half_store.specs.declared.store.drain.IntoStore as taken

module _ {K V S L H : Type 0} {e : EqGhosts K} {h : HashGhosts K} {b : HasherGhosts S K H} {l : LimitGhosts L}
    {p : taken.Ghosts (StoreState K V) K V} where
  -- of the same map and with the same pairs it is the same
  pub same_drain : (s t : Drain K V S L (StoreState K V) H e h b l p) → t.map ≡ s.map → t.pairs ≡ s.pairs → t ≡ s
  same_drain s t map pairs = λ i. record {
    map = map i;
    pairs = pairs i;
    allowed = is_prop→PathP (λ j. IsFormCapacity l.LIMIT (p.store (pairs j)).is_vec (p.store (pairs j)).capacity) (λ j. Prim.hlevel props)
        t.allowed s.allowed i;
  }

  pub runs : YieldsInOrder (DrainSteps {K = K} {V = V} {S = S} {L = L} {e = e} {h = h} {b = b} {l = l} {p = p}) pairs_to_come
  runs r t = as_is r (pairs_to_come r.from) (from_front DrainSteps (λ y. y) pairs_to_come (λ s t h. ap length h.0) (λ s x t h. h.0) r t)

  pub keeps_along : (s : Drain K V S L (StoreState K V) H e h b l p) (ps : List (K × V)) (t : Drain K V S L (StoreState K V) H e h b l p)
      → Yields DrainSteps s ps t → DrainsSameMap s t
  keeps_along s [] t y = subst (DrainsSameMap s) y (record { map = refl; form = refl; capacity = refl })
  keeps_along s (x ∷ xs) t y = grind (arith, common_steps, keeps_along y.0 xs t y.2)
