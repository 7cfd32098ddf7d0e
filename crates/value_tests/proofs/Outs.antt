-- Frames that are out after an item is placed.
use Rattle.std.proofs.Common.{◌≡◌, ◌∙◌, ℕ, Bool, Option, Some, IsTrue, ap, cond, is_some, nat_cmp, refl, sym, subst, true, false}
use Rattle.std.specs.FinMap.{get, get-insert}
use Rattle.std.specs.Ordering.{eq_by_cmp}
use Rattle.std.specs.Cmp.{unsigned_tied}
use Rattle.std.proofs.lemmas.Bool.{eq-eqb}
use Rattle.std.proofs.lemmas.Cmp.{nat_cmp_total}
use Rattle.work_region.specs.Frames.{Frames, IsOut, with_item}

tied : (q : ℕ) → eq_by_cmp nat_cmp q q ≡ true
tied q = unsigned_tied q q ∙ eq-eqb q q refl

either : {T : Type 0} (same : Bool) (item : T) (other : Option T) → IsTrue (is_some other) → IsTrue (is_some (cond same (Some item) other))
either true item other h = refl
either false item other h = h

-- a frame that is placed on is out
pub out_now : {T : Type 0} (frames : Frames T) (frame : ℕ) (item : T) → IsOut (with_item frames frame item) frame
out_now frames frame item = ap is_some (get-insert nat_cmp_total frames.items frame item frame ∙ ap (λ (b : Bool). cond b (Some item) (get frames.items frame)) (tied frame))

-- and each frame that was out still is
pub out_still : {T : Type 0} (frames : Frames T) (frame q : ℕ) (item : T) → IsOut frames q → IsOut (with_item frames frame item) q
out_still {T} frames frame q item h =
    subst (λ (o : Option T). IsTrue (is_some o)) (sym (get-insert nat_cmp_total frames.items frame item q)) (either (eq_by_cmp nat_cmp q frame) item (get frames.items q) h)

pub ruleset outs = (out_now, out_still)
