use Rattle.std.proofs.Common.{◌≡◌, ℕ, ◌<◌, ◌++◌, ◌∷◌, [], ◌∙◌, ap, sym, subst, arith, length, take, get_or, List}
use Rattle.std.proofs.lemmas.List.{take_more, get_or_default, append-nil}
use Rattle.std.proofs.lemmas.Grind.{flat_map-append}
use Rattle.db_value.specs.declared.report.Live.{Live}
use Rattle.bit_rows.specs.Kept.{KeptLane, no_kept}
use Rattle.bit_rows.specs.Told.{lives_by, lives_among}
use Rattle.bit_rows.proofs.told.lives_told.Goals as goal

pub put_lane-requires : goal.put_lane-requires
put_lane-requires c =
    let ks : List KeptLane = c.args.lanes.now in
    let i : ℕ = c.loop-lane.lane-index in
    let lt : i < length ks = omega (arith, c.loop-lane-test.true) in
    let is : c.lane-item.result ≡ get_or ks i no_kept = c.lane-item.is ∙ get_or_default ks i c.lane-item.result no_kept lt in
    subst (λ (k : KeptLane). c.args.relation < length k.head) (sym is) (c.requires i lt)

pub loop-lane-preserved : goal.loop-lane-preserved
loop-lane-preserved c =
    let r : ℕ = c.args.relation in
    let s : ℕ = c.args.segment in
    let ks : List KeptLane = c.args.lanes.now in
    let i : ℕ = c.loop-lane.lane-index in
    let k : KeptLane = get_or ks i no_kept in
    let lt : i < length ks = omega (arith, c.loop-lane-test.true) in
    let is : c.lane-item.result ≡ k = c.lane-item.is ∙ get_or_default ks i c.lane-item.result no_kept lt in
    c.in_ok-put_lane.ensures
    ∙ (λ j. c.loop-lane.invariant j ++ lives_by r s (is j))
    ∙ sym (ap (lives_among r s) (take_more ks i no_kept lt) ∙ flat_map-append (lives_by r s) (take i ks) (k ∷ []) ∙ ap (λ (ys : List Live). lives_among r s (take i ks) ++ ys) (append-nil (lives_by r s k)))
