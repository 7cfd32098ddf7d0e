use Rattle.std.proofs.Common.{◌≡◌, ◌∙◌, ◌<◌, ◌++◌, ◌∷◌, [], List, length, reverse, ap, sym, subst, arith}
use Rattle.std.proofs.lemmas.List.{length-map, reverse-reverse}
use Rattle.bit_rows.specs.Segments.{KeptRecords}
use Rattle.hybrid_store.specs.declared.parts.SegmentPart.{SegmentPart}
use Rattle.hybrid_store.specs.Parts.{parts_of, no_segment_part}
use Rattle.hybrid_store.specs.Assembled.{segment_kept, AreLists}
use Rattle.hybrid_store.proofs.PartRows.{rest_next, rest_at, rest_below, rest_none, parts_front, lists_put}
use Rattle.hybrid_store.proofs.part_rows.lists_of.Goals as goal

pub loop-part-init : goal.loop-part-init
loop-part-init c =
    ([], (ap reverse (c.reversed-rest.ensures ∙ ap reverse c.into_vec.ensures) ∙ reverse-reverse c.args.segments, c.in_ok-lists.ensures))

pub put_part-requires-clause-there : goal.put_part-requires-clause-there
put_part-requires-clause-there c =
    let done : List SegmentPart = c.loop-part.invariant.0 in
    let rest : List SegmentPart = c.loop-part.rest.items in
    let new : List SegmentPart = c.pop.new.self.items in
    let x : SegmentPart = c.in-Some.part in
    let all = c.loop-part.invariant.1.0 in
    let n = c.loop-part.invariant.1.1.count in
    let below = rest_below done rest new c.args.segments x c.in-Some.ensures.items all in
    let is = ap (λ (s : SegmentPart). s.relation) (rest_at done rest new c.args.segments x no_segment_part c.in-Some.ensures.items all) in
    let there = c.requires.there (length done) below in
    omega (arith, is, there, n)

pub put_part-requires-clause-room : goal.put_part-requires-clause-room
put_part-requires-clause-room c =
    let done : List SegmentPart = c.loop-part.invariant.0 in
    let rest : List SegmentPart = c.loop-part.rest.items in
    let new : List SegmentPart = c.pop.new.self.items in
    let x : SegmentPart = c.in-Some.part in
    let all = c.loop-part.invariant.1.0 in
    let are = c.loop-part.invariant.1.1 in
    let n = are.count in
    let there = put_part-requires-clause-there c in
    let h : x.relation < c.args.width = omega (arith, there, n) in
    let long = ap (λ (ks : List KeptRecords). length ks) (are.each x.relation h) in
    let m = length-map (parts_of x.relation done) segment_kept in
    let front = parts_front x.relation done (reverse rest) c.args.segments all in
    let few = c.requires.few x.relation h in
    let room = are.room x.relation h in
    omega (arith, long, m, front, few, room)

pub loop-part-preserved : goal.loop-part-preserved
loop-part-preserved c =
    let done : List SegmentPart = c.loop-part.invariant.0 in
    let rest : List SegmentPart = c.loop-part.rest.items in
    let new : List SegmentPart = c.pop.new.self.items in
    let x : SegmentPart = c.in-Some.part in
    let all = c.loop-part.invariant.1.0 in
    let are = c.loop-part.invariant.1.1 in
    let below = rest_below done rest new c.args.segments x c.in-Some.ensures.items all in
    let is = ap (λ (s : SegmentPart). s.relation) (rest_at done rest new c.args.segments x no_segment_part c.in-Some.ensures.items all) in
    let there = c.requires.there (length done) below in
    let h : x.relation < c.args.width = omega (arith, is, there) in
    (done ++ x ∷ [], (rest_next done rest new c.args.segments x c.in-Some.ensures.items all, subst (AreLists c.args.width (done ++ x ∷ [])) (sym c.in_ok-put_part.ensures) (lists_put c.args.width done c.loop-part.lists.items x are h)))

pub returns : goal.returns
returns c =
    let done : List SegmentPart = c.loop-part.invariant.0 in
    let rest : List SegmentPart = c.loop-part.rest.items in
    let none : length rest ≡ 0 = omega (arith, c.in_default.ensures.cases.0, c.loop-part.rest.ok.0) in
    subst (λ (ss : List SegmentPart). AreLists c.args.width ss c.loop-part.lists.items) (rest_none done rest c.args.segments none c.loop-part.invariant.1.0) c.loop-part.invariant.1.1
