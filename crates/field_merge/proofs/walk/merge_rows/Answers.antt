use Rattle.std.proofs.Common.{◌≡◌, ap, sym, ◌∙◌, refl, drop, Some}
use Rattle.field_merge.specs.Merge.{Clash, least_clash}
use Rattle.field_merge.specs.Walk.{least_key}
use Rattle.field_merge.proofs.WalkLemmas.{AreFirst, AreBehind, clash_first, clashes_walked, changes_walked, sides_walked}
use Rattle.field_merge.proofs.walk.merge_rows.Goals as goal

pub returns-in-Err-clause-conflict : goal.returns-in-Err-clause-conflict
returns-in-Err-clause-conflict c = λ r k f e.
    let base = drop c.keys.at.base c.args.sides.now.base in
    let left = drop c.keys.at.left c.args.sides.now.left in
    let right = drop c.keys.at.right c.args.sides.now.right in
    let least : least_key base left right ≡ Some c.in-Some.key = sym c.least_key.ensures ∙ c.in-Some.is in
    let first : AreFirst c.in-Some.key base left right _ _ _ = record { base_is = refl; left_is = refl; right_is = refl } in
    let clash : Clash = record { relation = r; key = k; field = f } in
    ap least_clash (sym c.keys.invariant.clashes)
    ∙ clash_first c.args.widths.now c.args.prefer c.args.relation c.in-Some.key base left right _ _ _ c.keys.invariant.sides least first clash (c.in-Err.ensures.conflict r k f e)

pub keys-preserved : goal.keys-preserved
keys-preserved c =
    let base = drop c.keys.at.base c.args.sides.now.base in
    let left = drop c.keys.at.left c.args.sides.now.left in
    let right = drop c.keys.at.right c.args.sides.now.right in
    let least : least_key base left right ≡ Some c.in-Some.key = sym c.least_key.ensures ∙ c.in-Some.is in
    let first : AreFirst c.in-Some.key base left right _ _ _ = record { base_is = refl; left_is = refl; right_is = refl } in
    let rest : AreBehind c.in-Some.key base left right _ _ _ = record { base_is = c.behind_all-at.ensures.base; left_is = c.behind_all-at.ensures.left; right_is = c.behind_all-at.ensures.right } in
    record {
      sides = sides_walked c.args.widths.now c.args.prefer c.args.relation c.in-Some.key base left right _ _ _ c.keys.invariant.sides least first _ _ _ rest;
      changes = changes_walked c.args.widths.now c.args.prefer c.args.relation c.in-Some.key base left right _ _ _ c.keys.invariant.sides least first _ _ _ rest _ _ c.in-Ok.ensures.changes ∙ c.keys.invariant.changes;
      clashes = clashes_walked c.args.widths.now c.args.prefer c.args.relation c.in-Some.key base left right _ _ _ c.keys.invariant.sides least first _ _ _ rest c.in-Ok.ensures.free ∙ c.keys.invariant.clashes;
    }
