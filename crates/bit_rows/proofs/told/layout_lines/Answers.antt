use Rattle.std.proofs.Common.{◌≡◌, ℕ, ◌<◌, ◌++◌, ◌∷◌, [], ◌∙◌, ap, sym, subst, arith, length, List}
use Rattle.std.specs.List.{flat_map, range_with_len}
use Rattle.std.proofs.lemmas.List.{append-nil}
use Rattle.std.proofs.lemmas.Grind.{flat_map-append}
use Rattle.db_value.specs.declared.report.LayoutLine.{LayoutLine}
use Rattle.bit_rows.specs.Segments.{KeptRecords}
use Rattle.bit_rows.specs.Told.{lines_told, relation_told, CanTell}
use Rattle.bit_rows.proofs.ToldLemmas.{range_more}
use Rattle.bit_rows.proofs.told.layout_lines.Goals as goal

pub put_lines-requires : goal.put_lines-requires
put_lines-requires c =
    let r : ℕ = c.loop-relation.relation in
    let lt : r < length c.args.lists.now = omega (arith, c.loop-relation-test.true, c.width_of-relation-end.ensures) in
    subst (λ (ks : List KeptRecords). CanTell c.args.lanes.now r ks) (sym c.list_of-kept.ensures) (c.requires.can r lt)

pub loop-relation-preserved : goal.loop-relation-preserved
loop-relation-preserved c =
    let r : ℕ = c.loop-relation.relation in
    let f : ℕ → List LayoutLine = relation_told c.args.schema.now c.args.lanes.now c.args.lists.now in
    record {
      told = c.in_ok-put_lines.ensures
          ∙ (λ j. c.loop-relation.invariant.told j ++ lines_told (c.name_at-name.ensures j) c.args.lanes.now r (c.list_of-kept.ensures j))
          ∙ sym (ap (flat_map f) (range_more r) ∙ flat_map-append f (range_with_len 0 r) (r ∷ []) ∙ ap (λ (ys : List LayoutLine). flat_map f (range_with_len 0 r) ++ ys) (append-nil (f r)));
      within = omega (arith, c.loop-relation-test.true, c.width_of-relation-end.ensures);
    }

pub returns : goal.returns
returns c =
    let f : ℕ → List LayoutLine = relation_told c.args.schema.now c.args.lanes.now c.args.lists.now in
    let all : c.loop-relation.relation ≡ length c.args.schema.now = omega (arith, c.loop-relation.invariant.within, c.loop-relation-test.false, c.width_of-relation-end.ensures, c.requires.wide) in
    c.in_ok-told.ensures ∙ c.loop-relation.invariant.told ∙ ap (λ n. flat_map f (range_with_len 0 n)) all
