use Rattle.std.proofs.Common.{◌≤◌, List, ap, sym, subst, length, arith}
use Rattle.std.specs.List.{All}
use Rattle.std.proofs.lemmas.List.Elements.{All-push}
use Rattle.std.proofs.lemmas.List.FromFn.{length-map-range_with_len}
use Rattle.db_store.specs.Layout.{lane_at}
use Rattle.hybrid_store.specs.Store.{layout_of}
use Rattle.image_text.specs.declared.image.BranchPart.{BranchPart}
use Rattle.db_image.specs.Images.{branch_image}
use Rattle.db_image.proofs.ImageSteps.{range_next}
use Rattle.db_image.proofs.image_versions.branches_image.Goals as goal

pub loop-branch-preserved : goal.loop-branch-preserved
loop-branch-preserved c =
    let v = c.loop-branch.invariant in
    let e = c.in_ok-push.ensures.items in
    record {
      value = range_next (λ b. branch_image (lane_at (layout_of c.args.store.now) b)) c.loop-branch.branch c.loop-branch.made.items c.push.new.self.items c.branch_image.result e c.branch_image.ensures.value v.value;
      short = subst (All (λ (b : BranchPart). length b.name ≤ 32)) (sym e) (All-push (λ (b : BranchPart). length b.name ≤ 32) c.loop-branch.made.items c.branch_image.result v.short c.branch_image.ensures.short);
    }

pub returns-clause-few : goal.returns-clause-few
returns-clause-few c =
    let a = ap (λ (xs : List BranchPart). length xs) c.of.ensures in
    let b = ap (λ (xs : List BranchPart). length xs) c.loop-branch.invariant.value in
    let n = length-map-range_with_len (λ b. branch_image (lane_at (layout_of c.args.store.now) b)) 0 c.loop-branch.branch in
    omega (arith, a, b, n, c.loop-branch.auto, c.branch_count-branch-end.type_inv)
