use Rattle.std.proofs.Common.{◌≡◌, ◌∙◌, ◌+◌, ◌<◌, ◌++◌, ◌∷◌, [], ℕ, List, length, map, take, get_or, ap, sym, subst}
use Rattle.std.specs.List.{range_with_len}
use Rattle.std.proofs.lemmas.List.{get_or_default, length_push, map-append}
use Rattle.bit_rows.specs.Kept.{KeptLane, no_kept}
use Rattle.hybrid_store.specs.declared.parts.BranchPart.{BranchPart}
use Rattle.hybrid_store.specs.Parts.{no_branch_part, base_in, bases_from}
use Rattle.hybrid_store.specs.Assembled.{rows_of_parts, begun_bare}
use Rattle.hybrid_store.proofs.NewLemmas.{each_more}
use Rattle.hybrid_store.proofs.PartLanes.{bases_more}
use Rattle.hybrid_store.proofs.part_lanes.bare_lanes.Goals as goal

pub loop-index-preserved : goal.loop-index-preserved
loop-index-preserved c =
    let bs : List BranchPart = c.args.branches.now in
    let i = c.loop-index.index in
    let lt : i < length bs = c.loop-index-test.true in
    let part : BranchPart = c.index-branches-index.result in
    let part_is : part ≡ get_or bs i no_branch_part = c.index-branches-index.is ∙ get_or_default bs i part no_branch_part lt in
    let ks : List KeptLane = c.loop-index.lanes.items in
    let k : KeptLane = c.in_ok-lane.lane in
    let v = c.loop-index.invariant in
    let items : c.push.new.self.items ≡ ks ++ k ∷ [] = c.in_ok-push.ensures.items in
    let long = length_push ks k in
    let base : k.base ≡ base_in (bases_from [] (take i bs)) (get_or bs i no_branch_part).origin =
    ap (λ (x : KeptLane). x.base) c.in_ok-lane.ensures
    ∙ c.base_among-base.ensures
    ∙ (λ j. base_in (map (λ (x : KeptLane). x.base) (c.deref.ensures.value j)) (part_is j).origin)
    ∙ (λ j. base_in (v.bases j) (get_or bs i no_branch_part).origin) in
    let one : k ≡ begun_bare (get_or bs i no_branch_part) k.base (map (λ r. rows_of_parts c.args.segments.now i r) (range_with_len 0 c.args.width)) =
    c.in_ok-lane.ensures ∙ (λ j. begun_bare (part_is j) (sym (ap (λ (x : KeptLane). x.base) c.in_ok-lane.ensures) j) (c.in_ok-rows.ensures j)) in
    record {
      count = ap (λ (xs : List KeptLane). length xs) items ∙ long ∙ ap (λ n. n + 1) v.count;
      bases = ap (map (λ (x : KeptLane). x.base)) items ∙ map-append (λ (x : KeptLane). x.base) ks (k ∷ []) ∙ (λ j. v.bases j ++ base j ∷ []) ∙ sym (bases_more bs i no_branch_part lt);
      each = subst (λ (xs : List KeptLane). (b : ℕ) → b < i + 1 → get_or xs b no_kept ≡ begun_bare (get_or bs b no_branch_part) (get_or xs b no_kept).base (map (λ r. rows_of_parts c.args.segments.now b r) (range_with_len 0 c.args.width))) (sym items)
          (each_more (λ b (x : KeptLane). x ≡ begun_bare (get_or bs b no_branch_part) x.base (map (λ r. rows_of_parts c.args.segments.now b r) (range_with_len 0 c.args.width))) ks k no_kept i v.count v.each one);
    }
