-- Frames that are placed on.
use Rattle.std.proofs.Common.{◌≡◌, ℕ, ap, ◌∙◌, refl, nat_cmp, is_some, cond, Bool, Some, true}
use Rattle.std.specs.FinMap.{get, get-insert}
use Rattle.std.specs.Ordering.{eq_by_cmp}
use Rattle.std.specs.Cmp.{unsigned_tied}
use Rattle.std.proofs.lemmas.Bool.{eq-eqb}
use Rattle.std.proofs.lemmas.Cmp.{nat_cmp_total}
use Rattle.work_region.specs.Frames.{Frames, IsOut, with_item}

tied : (q : ℕ) → eq_by_cmp nat_cmp q q ≡ true
tied q = unsigned_tied q q ∙ eq-eqb q q refl

-- a frame that is placed on is out
pub comes : {T : Type 0} (region : Frames T) (frame : ℕ) (item : T) → IsOut (with_item region frame item) frame
comes region frame item = ap is_some (get-insert nat_cmp_total region.items frame item frame ∙ ap (λ (b : Bool). cond b (Some item) (get region.items frame)) (tied frame))
