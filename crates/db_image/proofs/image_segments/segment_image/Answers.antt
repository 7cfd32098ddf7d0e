use Rattle.std.proofs.Common.{ℕ, ◌<◌, List, ap, sym, subst, length, arith}
use Rattle.std.specs.Prelude.{IfSome}
use Rattle.db_value.specs.Relations.{widths_at}
use Rattle.db_value.specs.declared.record.Record.{Record}
use Rattle.segment.specs.Pages.{AreWide}
use Rattle.hybrid_store.specs.Store.{layout_of}
use Rattle.db_image.proofs.HeadSmall.{head_small}
use Rattle.db_image.proofs.image_segments.segment_image.Goals as goal

pub head_image-head-requires : goal.head_image-head-requires
head_image-head-requires c =
    let s = c.args.store.now in
    subst (λ o. IfSome o (λ b. b < 1024)) (sym c.head.ensures) (head_small (layout_of s) s.laid s.sound c.args.relation c.args.index c.requires.relation c.requires.index)

pub returns-clause-fits : goal.returns-clause-fits
returns-clause-fits c =
    let all = c.in_ok-records.ensures in
    let ws : List ℕ = widths_at (layout_of c.args.store.now).schema c.args.relation in
    let wide : AreWide ws c.in_ok-records.records = subst (AreWide ws) (sym all.value) (subst (λ (us : List ℕ). AreWide us c.segment.result.now.records) c.segment.ensures.widths c.records_image.ensures.wide) in
    let few = c.records_image.ensures.few in
    let same = ap (λ (xs : List Record). length xs) all.value in
    record { records = omega (arith, same, few); wide = wide; few = c.in_ok-rows.ensures.few; rows = c.in_ok-rows.ensures.fits }
