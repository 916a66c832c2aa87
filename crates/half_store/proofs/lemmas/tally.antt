-- Work that is added up.
use Rattle.half_store.proofs.Common.{◌≡◌, ◌+◌, refl, arith, ℕ, ◌-◌, common_steps, Work, looked_more, ReadsWithin}

pub same_work : (a b : Work) → a.asked ≡ b.asked → a.compared ≡ b.compared → a.looked ≡ b.looked → a ≡ b
same_work a b x y z = λ i. record { asked = x i; compared = y i; looked = z i }

pub looked_more-zero : (w : Work) → w ≡ looked_more 0 w
looked_more-zero w = same_work w (looked_more 0 w) refl refl (omega arith)

pub looked_more-one : (w v : Work) (n : ℕ) → v ≡ looked_more n w → looked_more 1 v ≡ looked_more (n + 1) w
looked_more-one w v n e = grind (arith, common_steps)

-- what is within a lower limit is within this one
pub looked_less : (most less : ℕ) {old new : Work} → ReadsWithin (most - less) old new → ReadsWithin most old new
looked_less most less w = record { asked = w.asked; compared = w.compared; looked = omega (arith, w.looked) }
