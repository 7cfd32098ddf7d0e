use Rattle.std.proofs.Common.{◌≡◌, ℕ, ◌++◌, ◌∷◌, [], ◌∙◌, ap, sym, arith, length, map, List, zero-add}
use Rattle.std.specs.List.{range_with_len}
use Rattle.std.proofs.lemmas.List.{append_assoc}
use Rattle.std.proofs.lemmas.List.FromFn.{map-range_with_len_more}
use Rattle.db_value.specs.declared.report.LayoutLine.{LayoutLine}
use Rattle.bit_rows.specs.Told.{line_told}
use Rattle.bit_rows.proofs.told.put_lines.Goals as goal

pub loop-index-preserved : goal.loop-index-preserved
loop-index-preserved c =
    let i : ℕ = c.loop-index.index in
    let start : List LayoutLine = c.args.lines.now.items in
    let f : ℕ → LayoutLine = line_told c.args.name c.args.lanes.now c.args.relation c.args.kept.now.all in
    record {
      told = c.in_ok-push.ensures.items
          ∙ (λ j. c.loop-index.invariant.told j ++ c.in_ok-line.ensures j ∷ [])
          ∙ append_assoc start (map f (range_with_len 0 i)) (f i ∷ [])
          ∙ ap (λ (xs : List LayoutLine). start ++ xs) (sym (map-range_with_len_more f 0 i i (zero-add i)));
      within = omega (arith, c.loop-index-test.true, c.count-index-end.ensures);
    }

pub returns : goal.returns
returns c =
    let start : List LayoutLine = c.args.lines.now.items in
    let f : ℕ → LayoutLine = line_told c.args.name c.args.lanes.now c.args.relation c.args.kept.now.all in
    let all : c.loop-index.index ≡ length c.args.kept.now.all = omega (arith, c.loop-index.invariant.within, c.loop-index-test.false, c.count-index-end.ensures) in
    c.loop-index.invariant.told ∙ ap (λ n. start ++ map f (range_with_len 0 n)) all
