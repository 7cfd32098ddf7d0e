use Rattle.std.proofs.Common.{◌≡◌, ◌∙◌, ◌+◌, ◌<◌, ◌++◌, ◌∷◌, [], List, length, take, get_or, ap, sym, subst, arith}
use Rattle.std.proofs.lemmas.List.{get_or_default}
use Rattle.bit_rows.specs.Kept.{KeptLane, no_kept}
use Rattle.hybrid_store.specs.declared.made.MadeVersion.{MadeVersion}
use Rattle.hybrid_store.specs.Parts.{seconds_of}
use Rattle.hybrid_store.specs.Assembled.{no_made, AreWith}
use Rattle.hybrid_store.proofs.PartLanes.{seconds_room, order_more, with_more}
use Rattle.hybrid_store.proofs.part_lanes.put_versions.Goals as goal

pub put_version-requires-clause-few : goal.put_version-requires-clause-few
put_version-requires-clause-few c =
    let xs : List MadeVersion = c.args.versions.now in
    let i = c.loop-made.made-index in
    let lt : i < length xs = c.loop-made-test.true in
    let x : MadeVersion = get_or xs i no_made in
    let there = c.requires.there i lt in
    let room = seconds_room xs i x lt (get_or_default xs i no_made x lt) in
    let was = ap (λ (k : KeptLane). length k.seconds) (c.loop-made.invariant.lanes.each x.branch there) in
    let few = c.requires.few x.branch there in
    omega (arith, room, was, few)

pub loop-made-preserved : goal.loop-made-preserved
loop-made-preserved c =
    let xs : List MadeVersion = c.args.versions.now in
    let i = c.loop-made.made-index in
    let lt : i < length xs = c.loop-made-test.true in
    let x : MadeVersion = get_or xs i no_made in
    let is : x ≡ get_or xs i x = get_or_default xs i no_made x lt in
    let there = c.requires.there i lt in
    let v = c.loop-made.invariant in
    let was : length (get_or c.loop-made.lanes.items x.branch no_kept).seconds ≡ length (seconds_of x.branch (take i xs)) = ap (λ (k : KeptLane). length k.seconds) (v.lanes.each x.branch there) in
    record {
      order = c.in_ok-put_version.ensures.order ∙ (λ j. v.order j ++ record { branch = x.branch; position = was j } ∷ []) ∙ sym (order_more xs i x lt is);
      lanes = subst (AreWith c.args.lanes.now.items (take (i + 1) xs)) (sym c.in_ok-put_version.ensures.lanes) (with_more c.args.lanes.now.items c.loop-made.lanes.items xs i x lt is v.lanes there);
    }
