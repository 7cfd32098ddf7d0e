use Rattle.std.proofs.Common.{ℕ, ◌<◌, [], sym, subst, take, arith}
use Rattle.std.specs.List.{All}
use Rattle.std.proofs.lemmas.List.{take_more, take_all}
use Rattle.std.proofs.lemmas.List.Elements.{All-push}
use Rattle.record_page.specs.Page.{record_at}
use Rattle.db_image.specs.Imaged.{IsRanged}
use Rattle.db_image.proofs.image_segments.fit_their_types.Goals as goal

pub loop-slot-preserved : goal.loop-slot-preserved
loop-slot-preserved g c =
    let rows = c.args.segment.now.records in
    let slot = c.loop-slot.slot in
    let row = record_at rows slot in
    let below = subst (λ (n : ℕ). slot < n) c.len-slot-end.ensures.count c.loop-slot-test.true in
    subst (All IsRanged) (sym (take_more rows slot (record { key = 0; fields = [] }) below))
    (All-push IsRanged (take slot rows) row c.loop-slot.invariant (subst IsRanged c.read.ensures.row c.fits_its_types.ensures))

pub returns : goal.returns
returns g c =
    let n = c.len-slot-end.ensures.count in
    let over = c.loop-slot-test.false in
    subst (All IsRanged) (take_all c.loop-slot.slot c.args.segment.now.records (omega (arith, n, over))) c.loop-slot.invariant
