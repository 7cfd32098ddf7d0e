use Rattle.std.proofs.Common.{◌≡◌, ◌<◌, ◌∙◌, ◌==◌, ◌++◌, ◌∷◌, [], ap, sym, cond, Some, None, true, ℕ, List, length, take, get_or, ◌+◌, arith, subst}
use Rattle.std.specs.BTreeMap.{is_at}
use Rattle.std.specs.Map.{lookup}
use Rattle.std.specs.Ordering.{nat_cmp}
use Rattle.std.proofs.lemmas.Bool.{ne_eqb, eqb-true, eq-eqb}
use Rattle.work_region.specs.declared.rows.RowFrame.{RowFrame as Touch}
use Rattle.db_store.specs.Touched.{place_of, no_touch}
use Rattle.db_store.specs.Places.{AreListed}
use Rattle.db_store.proofs.ChangeLemmas.{place_other, place_next, taken_once, nothing_listed, found_push, once_push}
use Rattle.db_store.proofs.touched.Touched.listed_at.Goals as goal

pub loop-place-init : goal.loop-place-init
loop-place-init c = rw c.in_ok-places.ensures.items (nothing_listed c.args.relation)

pub loop-place-preserved-then-own-relation : goal.loop-place-preserved-then-own-relation
loop-place-preserved-then-own-relation c =
    let ts : List Touch = c.args.self.now.keys in
    let i : ℕ = c.loop-place.place in
    let within : i < length ts = omega (arith, c.loop-place-test.true, c.len-place-end.ensures.len) in
    record {
      once = c.loop-place.invariant.once;
      found = λ key. c.loop-place.invariant.found key
          ∙ place_other c.args.relation ts i key within (ap (λ n. n == c.args.relation) (sym c.relation-own.ensures) ∙ ne_eqb c.relation-own.result c.args.relation c.if-own-relation.true);
    }

pub loop-place-preserved : goal.loop-place-preserved
loop-place-preserved c =
    let ts : List Touch = c.args.self.now.keys in
    let i : ℕ = c.loop-place.place in
    let r : ℕ = c.args.relation in
    let es = c.loop-place.places.items in
    let within : i < length ts = omega (arith, c.loop-place-test.true, c.len-place-end.ensures.len) in
    let t : Touch = get_or ts i no_touch in
    let own : (t.relation == r) ≡ true = ap (λ n. n == r) (sym c.relation-own.ensures) ∙ eq-eqb c.relation-own.result r c.if-own-relation.false in
    let none : lookup (is_at (nat_cmp t.row.key)) es ≡ None = c.loop-place.invariant.found t.row.key ∙ ap (λ n. place_of n t.row.key (take i ts)) (sym (eqb-true t.relation r own)) ∙ taken_once ts i within c.requires in
    subst (λ (new : List (ℕ × ℕ)). AreListed r (take (i + 1) ts) new) (sym (c.in_ok-push.ensures.items ∙ ap (λ k. es ++ (k, i) ∷ []) c.key.ensures))
    (record {
      once = once_push es t.row.key i c.loop-place.invariant.once none;
      found = λ key. found_push es t.row.key i key none
          ∙ ap (cond (t.row.key == key) (Some i)) (c.loop-place.invariant.found key)
          ∙ place_next r ts i key within c.requires own;
    })
