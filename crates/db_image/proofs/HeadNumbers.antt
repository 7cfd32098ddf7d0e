-- The branches that numbers tell.
use Rattle.std.proofs.Common.{◌≡◌, ℕ, zero, suc, ◌-◌, Some, None, refl, ap, arith}
use Rattle.db_image.specs.Parts.{head_part}

pub head_none : (h : ℕ) → h ≡ 0 → None ≡ head_part h
head_none zero e = refl
head_none (suc h) e = absurd (omega (arith, e))

pub head_some : (h : ℕ) → (h ≡ 0 → ⊥) → Some (h - 1) ≡ head_part h
head_some zero n = absurd (n refl)
head_some (suc h) n = let e : suc h - 1 ≡ h = omega arith in ap (λ k. Some k) e
