use Rattle.std.proofs.Common.{List, ap, length, arith}
use Rattle.std.proofs.lemmas.List.FromFn.{length-map-range_with_len}
use Rattle.hybrid_store.specs.Readers.{made_version}
use Rattle.hybrid_store.specs.Store.{layout_of}
use Rattle.image_text.specs.declared.image.MadeVersion.{MadeVersion}
use Rattle.db_image.specs.Images.{version_image}
use Rattle.db_image.proofs.ImageSteps.{range_next}
use Rattle.db_image.proofs.image_versions.versions_image.Goals as goal

pub loop-index-preserved : goal.loop-index-preserved
loop-index-preserved c =
    range_next (λ i. version_image (made_version (layout_of c.args.store.now) i)) c.loop-index.index c.loop-index.made.items c.push.new.self.items (version_image c.version-version.result) c.in_ok-push.ensures.items (ap version_image c.version-version.ensures)
    c.loop-index.invariant

pub returns-clause-few : goal.returns-clause-few
returns-clause-few c =
    let a = ap (λ (xs : List MadeVersion). length xs) c.of.ensures in
    let b = ap (λ (xs : List MadeVersion). length xs) c.loop-index.invariant in
    let n = length-map-range_with_len (λ i. version_image (made_version (layout_of c.args.store.now) i)) 0 c.loop-index.index in
    omega (arith, a, b, n, c.loop-index.auto, c.versions-index-end.type_inv)
