use Rattle.std.proofs.Common.{◌∙◌, arith, ap, sym, length}
use Rattle.std.specs.FinMap as finite
use Rattle.key_index.specs.Overlaid.{touch_cmp}
use Rattle.db_store.specs.Touched.{place_of}
use Rattle.db_store.proofs.touched.Touched.with_room.Goals as goal

pub invariant_of-result : goal.invariant_of-result
invariant_of-result c =
    let is = c.in_ok-take.ensures in
    record {
      spare = omega (arith, c.in_ok-with_room.ensures.spare, ap (λ f. f.room) is, ap (λ f. length f.frames) is);
      wide = omega (arith, ap (λ f. f.room) is, c.ranges.room.fits);
      placed = λ r key. ap (λ m. finite.get m (r, key)) c.in_ok-with_room.ensures.empty ∙ finite.get-empty touch_cmp (r, key) ∙ sym (ap (λ f. place_of r key f.frames) is);
    }
