use Rattle.std.proofs.Common.{◌≡◌, ◌+◌, ◌-◌, ◌++◌, ℕ, T, length, drop, ap, sym, ◌∙◌, subst, arith, List, nat_cmp}
use Rattle.std.proofs.lemmas.List.{length-take-le, length-drop, drop-drop}
use Rattle.std.specs.FinMap.{is_sorted}
use Rattle.key_index.specs.declared.spot.Spot.{Spot}
use Rattle.key_index.specs.Blocks.{Appends}
use Rattle.key_index.specs.Links.{blocks_of, entries_of}
use Rattle.key_index.proofs.SpotLists.{sorted_cut, entries_of-cut}
use Rattle.key_index.proofs.Linked.{pushed_none, pushed_more, pushed_all}
use Rattle.key_index.proofs.Runs.{rest_is}
use Rattle.key_index.proofs.leaf.push_parts.Goals as goal

pub loop-from-init : goal.loop-from-init
loop-from-init c = record { within = omega arith; pushed = pushed_none (blocks_of c.args.to.now.items) (entries_of c.args.spots.now) }

pub push_leaf-requires-clause-sorted : goal.push_leaf-requires-clause-sorted
push_leaf-requires-clause-sorted c =
    let from : ℕ = c.loop-from.from in
    subst (λ (t : List Spot). T (is_sorted nat_cmp (entries_of t))) (sym c.in_ok-part.ensures)
    (sorted_cut (from + 128 - from) (drop from c.args.spots.now) (sorted_cut from c.args.spots.now c.requires).1).0

pub push_leaf-requires-clause-few : goal.push_leaf-requires-clause-few
push_leaf-requires-clause-few c =
    let from : ℕ = c.loop-from.from in
    omega (arith, ap length c.in_ok-part.ensures, length-take-le (from + 128 - from) (drop from c.args.spots.now) (omega (arith, length-drop from c.args.spots.now)))

pub loop-from-preserved : goal.loop-from-preserved
loop-from-preserved c =
    let from : ℕ = c.loop-from.from in
    let spots = c.args.spots.now in
    let part : ℕ = from + 128 - from in
    let next : from + part ≡ from + 128 = omega arith in
    record {
      within = omega arith;
      pushed = pushed_more (blocks_of c.args.to.now.items) (blocks_of c.loop-from.to.items) (blocks_of c.push_leaf.new.to.items)
          (entries_of spots) (entries_of (drop from spots)) (entries_of c.in_ok-part.part.items) (entries_of (drop (from + 128) spots))
          (entries_of-cut part (drop from spots)
          ∙ ap (λ (t : List Spot). entries_of t ++ entries_of (drop part (drop from spots))) (sym c.in_ok-part.ensures)
          ∙ ap (λ (t : List Spot). entries_of c.in_ok-part.part.items ++ entries_of t) (drop-drop part from spots ∙ ap (λ n. drop n spots) next))
          c.in_ok-push_leaf.ensures c.loop-from.invariant.pushed;
    }

pub push_leaf-requires-2-clause-sorted : goal.push_leaf-requires-2-clause-sorted
push_leaf-requires-2-clause-sorted c =
    subst (λ (t : List Spot). T (is_sorted nat_cmp (entries_of t))) (sym (c.in_ok-part-2.ensures ∙ rest_is c.args.spots.now c.loop-from.from))
    (sorted_cut c.loop-from.from c.args.spots.now c.requires).1

pub push_leaf-requires-2-clause-few : goal.push_leaf-requires-2-clause-few
push_leaf-requires-2-clause-few c = omega (arith, ap length (c.in_ok-part-2.ensures ∙ rest_is c.args.spots.now c.loop-from.from), length-drop c.loop-from.from c.args.spots.now)

pub returns : goal.returns
returns c =
    pushed_all (blocks_of c.args.to.now.items) (blocks_of c.loop-from.to.items) (blocks_of c.push_leaf-2.new.to.items)
    (entries_of c.args.spots.now) (entries_of (drop c.loop-from.from c.args.spots.now))
    (subst (λ (t : List Spot). Appends (blocks_of c.loop-from.to.items) (blocks_of c.push_leaf-2.new.to.items) (entries_of t)) (c.in_ok-part-2.ensures ∙ rest_is c.args.spots.now c.loop-from.from) c.in_ok-push_leaf-2.ensures)
    c.loop-from.invariant.pushed
