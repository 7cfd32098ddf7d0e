use Rattle.std.proofs.Common.{◌≡◌, ◌∙◌, ◌++◌, ◌∷◌, [], List, length, get_or, ap, sym, subst, arith, refl}
use Rattle.std.proofs.lemmas.List.{length_push}
use Rattle.bit_rows.specs.Kept.{KeptLane, no_kept}
use Rattle.hybrid_store.specs.Assembled.{CanSeeLane, IsSeenLane}
use Rattle.hybrid_store.proofs.NewLemmas.{each_more}
use Rattle.hybrid_store.proofs.PartRows.{rest_next, rest_at, rest_below}
use Rattle.hybrid_store.proofs.part_lanes.seen_lanes.Goals as goal

pub seen-requires : goal.seen-requires
seen-requires c =
    let done : List KeptLane = c.loop-lane.invariant.rest.0 in
    let rest : List KeptLane = c.loop-lane.rest.items in
    let new : List KeptLane = c.pop.new.self.items in
    let x : KeptLane = c.in-Some.lane in
    let all = c.loop-lane.invariant.rest.1.0 in
    let below = rest_below done rest new c.args.bare.items x c.in-Some.ensures.items all in
    let is = rest_at done rest new c.args.bare.items x no_kept c.in-Some.ensures.items all in
    subst (CanSeeLane c.args.lists.now) (sym is) (c.requires (length done) below)

pub loop-lane-preserved : goal.loop-lane-preserved
loop-lane-preserved c =
    let done : List KeptLane = c.loop-lane.invariant.rest.0 in
    let rest : List KeptLane = c.loop-lane.rest.items in
    let new : List KeptLane = c.pop.new.self.items in
    let x : KeptLane = c.in-Some.lane in
    let bare : List KeptLane = c.args.bare.items in
    let v = c.loop-lane.invariant in
    let ks : List KeptLane = c.loop-lane.lanes.items in
    let k : KeptLane = c.in_ok-seen.seen in
    let is : x ≡ get_or bare (length done) no_kept = rest_at done rest new bare x no_kept c.in-Some.ensures.items v.rest.1.0 in
    let here : x ≡ get_or bare (length ks) no_kept = is ∙ ap (λ n. get_or bare n no_kept) v.rest.1.1 in
    let one : IsSeenLane c.args.lists.now (get_or bare (length ks) no_kept) k = subst (λ (y : KeptLane). IsSeenLane c.args.lists.now y k) here c.in_ok-seen.ensures in
    let items : c.push.new.self.items ≡ ks ++ k ∷ [] = c.in_ok-push.ensures.items in
    let long = ap (λ (xs : List KeptLane). length xs) items in
    let more = length_push ks k in
    let wide = length_push done x in
    let same = v.rest.1.1 in
    record {
      rest = (done ++ x ∷ [], (rest_next done rest new bare x c.in-Some.ensures.items v.rest.1.0, omega (arith, long, more, wide, same)));
      each = λ b h. subst (λ (xs : List KeptLane). IsSeenLane c.args.lists.now (get_or bare b no_kept) (get_or xs b no_kept)) (sym items)
          (each_more (λ q (y : KeptLane). IsSeenLane c.args.lists.now (get_or bare q no_kept) y) ks k no_kept (length ks) refl v.each one b (omega (arith, h, long, more)));
      room = omega (arith, v.room, c.in_ok-push.ensures.capacity);
    }
