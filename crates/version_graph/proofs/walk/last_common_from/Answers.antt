use Rattle.std.proofs.Common.{◌≡◌, ℕ, suc, false, ◌&&◌, ◌+◌, ◌-◌, ◌<◌, max, length, map, get_or, replicate, List, [], ap, ◌∙◌, sym, subst, arith}
use Rattle.std.specs.List.{Contains}
use Rattle.std.proofs.lemmas.Bool.{and_left, and_right}
use Rattle.std.proofs.lemmas.List.{get_or-map, length-replicate}
use Rattle.std.proofs.lemmas.List.Elements.{Contains-get_or}
use Rattle.version_graph.specs.declared.parents.Parents.TheVariants.{Root}
use Rattle.version_graph.specs.Ancestors.{parents_of}
use Rattle.version_graph.specs.Parents.{list_of}
use Rattle.version_graph.specs.Marked.{Marked, unmarked, marked, all_marked}
use Rattle.version_graph.proofs.OneSide.{at, length-marked, length-all_marked}
use Rattle.version_graph.proofs.Visits.{Walk, of_left, of_right, left_mark, right_mark, walk_begins, walk_on, walk_ends}
use Rattle.version_graph.proofs.walk.last_common_from.Goals as goal

pub loop-version-init : goal.loop-version-init
loop-version-init c =
    let vs = map list_of c.args.versions.now in
    let left = c.args.left in
    let right = c.args.right in
    let low = c.args.low in
    let high = c.max-high.result in
    let n = high - low + 1 in
    let is : high ≡ max left right = c.max-high.ensures in
    let one : c.set.new.self ≡ record { low = low; marks = marked low left_mark left (replicate n unmarked) } =
    c.set.ensures ∙ ap (λ (m : Marked). record { low = m.low; marks = marked m.low left_mark left m.marks }) c.in_ok-marks.ensures in
    let two : c.set-2.new.self ≡ record { low = low; marks = marked low right_mark right (marked low left_mark left (replicate n unmarked)) } =
    c.set-2.ensures ∙ ap (λ (m : Marked). record { low = m.low; marks = marked m.low right_mark right m.marks }) one in
    let long = ap (λ (m : Marked). length m.marks) two ∙ length-marked low right_mark right (marked low left_mark left (replicate n unmarked)) ∙ length-marked low left_mark left (replicate n unmarked) ∙ length-replicate n unmarked in
    let first = ap (λ (m : Marked). m.low) two in
    let up : suc high ≡ high + 1 = omega arith in
    let begun = walk_begins vs left right low high n c.requires.earlier (omega (arith, c.requires.left_from)) (omega (arith, is)) (omega (arith, c.requires.right_from)) (omega (arith, is)) (omega (arith, is, c.requires.left_from)) in
    record {
      walk = subst (λ (m : Marked). Walk vs left right m.low (high + 1) m.marks) (sym two) (subst (λ (v : ℕ). Walk vs left right low v (marked low right_mark right (marked low left_mark left (replicate n unmarked)))) up begun);
      there = omega (arith, is, c.requires.left_there, c.requires.right_there);
      wide = omega (arith, is, long, first, c.requires.left_from);
      from = omega (arith, is, c.requires.left_from);
      first = first;
    }

pub returns-then-sides-2 : goal.returns-then-sides-2
returns-then-sides-2 c =
    let vs = map list_of c.args.versions.now in
    let version = c.loop-version.version in
    let marks = c.loop-version.marks in
    let first = c.loop-version.invariant.first in
    let v = version - 1 in
    let i = version - 1 - marks.low in
    let up : version ≡ suc v = omega (arith, c.loop-version-test.true) in
    let is : marks.low + i ≡ v = omega (arith, c.loop-version-test.true, first) in
    let walk = subst (λ (k : ℕ). Walk vs c.args.left c.args.right marks.low k marks.marks) up c.loop-version.invariant.walk in (
      omega (arith, c.loop-version-test.true),
      walk_ends vs c.args.left c.args.right marks.low v i marks.marks is walk (ap of_left (sym c.at-sides.ensures) ∙ c.if-sides.true) (ap of_right (sym c.at-sides.ensures) ∙ c.if-sides-2.true),
    )

pub set_all-requires : goal.set_all-requires
set_all-requires c k d lt =
    let versions = c.args.versions.now in
    let v = c.loop-version.version - 1 in
    let there : v < length versions = let t = c.loop-version.invariant.there in omega (arith, t, c.loop-version-test.true) in
    let parents : list_of (get_or versions v Root) ≡ parents_of (map list_of versions) v = sym (get_or-map list_of versions v Root [] there) in
    let q = get_or (list_of (get_or versions v Root)) k d in
    let before : q < v = c.requires.earlier v q (subst (λ (ps : List ℕ). Contains ps q) parents (Contains-get_or (list_of (get_or versions v Root)) k d lt)) in
    let wide = c.loop-version.invariant.wide in
    omega (arith, before, wide)

pub loop-version-preserved : goal.loop-version-preserved
loop-version-preserved c =
    let versions = c.args.versions.now in
    let vs = map list_of versions in
    let version = c.loop-version.version in
    let marks = c.loop-version.marks in
    let first = c.loop-version.invariant.first in
    let wide = c.loop-version.invariant.wide in
    let v = version - 1 in
    let i = version - 1 - marks.low in
    let up : version ≡ suc v = omega (arith, c.loop-version-test.true) in
    let is : marks.low + i ≡ v = omega (arith, c.loop-version-test.true, first) in
    let within : i < length marks.marks = omega (arith, is, wide, up) in
    let there : v < length versions = let t = c.loop-version.invariant.there in omega (arith, t, c.loop-version-test.true) in
    let parents : list_of (get_or versions v Root) ≡ parents_of vs v = sym (get_or-map list_of versions v Root [] there) in
    let not_both : (at of_left marks.marks i && at of_right marks.marks i) ≡ false = elim c.else-sides.branch [
      | goal.else-sides-via-then-sides+else-sides-2 w ↦ and_right (at of_left marks.marks i) (at of_right marks.marks i) (ap of_right (sym c.at-sides.ensures) ∙ w.if-sides-2.false)
      | goal.else-sides-via-else-sides w ↦ and_left (at of_left marks.marks i) (at of_right marks.marks i) (ap of_left (sym c.at-sides.ensures) ∙ w.if-sides.false)
    ] in
    let all : c.set_all.new.self ≡ record { low = marks.low; marks = all_marked marks.low (get_or marks.marks i unmarked) (parents_of vs v) marks.marks } =
    c.set_all.ensures ∙ (λ k. record { low = marks.low; marks = all_marked marks.low (c.at-sides.ensures k) (parents k) marks.marks }) in
    let next = walk_on vs c.args.left c.args.right marks.low v i marks.marks c.requires.earlier is within (subst (λ (k : ℕ). Walk vs c.args.left c.args.right marks.low k marks.marks) up c.loop-version.invariant.walk) not_both in
    let long = ap (λ (m : Marked). length m.marks) all ∙ length-all_marked marks.low (get_or marks.marks i unmarked) (parents_of vs v) marks.marks in
    let same = ap (λ (m : Marked). m.low) all in
    record {
      walk = subst (λ (m : Marked). Walk vs c.args.left c.args.right m.low v m.marks) (sym all) next;
      there = omega (arith, there);
      wide = omega (arith, wide, long, same);
      from = omega (arith, c.loop-version-test.true);
      first = same ∙ first;
    }
