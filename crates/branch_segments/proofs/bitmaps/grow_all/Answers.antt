use Rattle.std.proofs.Common.{◌<◌, ◌≤◌, length, take, set, arith, sym, subst, List, Bool}
use Rattle.std.proofs.lemmas.List.{take_more_set, take_all}
use Rattle.std.proofs.lemmas.List.Elements.{All-push, All-same}
use Rattle.branch_segments.specs.Marks.{IsLonger}
use Rattle.branch_segments.proofs.MarkLemmas.{zip_same, zip_set, zip_rows, zip_wide, zip_count, kept_zip, longer_by, long_by}
use Rattle.branch_segments.proofs.bitmaps.grow_all.Goals as goal

pub loop-at-init : goal.loop-at-init
loop-at-init c = (zip_same c.args.rows.now.items, λ k d lt. absurd (omega arith))

pub returns-in_err-grow-clause-same : goal.returns-in_err-grow-clause-same
returns-in_err-grow-clause-same c =
    zip_rows c.args.rows.now.items (set c.loop-at.rows.items c.loop-at.at c.grow.new.self)
    (kept_zip c.args.rows.now.items c.loop-at.rows.items c.loop-at.at c.index_mut.result.now c.grow.new.self c.loop-at.invariant.0 c.index_mut.ensures.value c.in_err-grow.ensures.unchanged)

pub returns-in_err-grow-clause-wide : goal.returns-in_err-grow-clause-wide
returns-in_err-grow-clause-wide c = λ m. zip_wide c.args.rows.now.items (set c.loop-at.rows.items c.loop-at.at c.grow.new.self) m
    (kept_zip c.args.rows.now.items c.loop-at.rows.items c.loop-at.at c.index_mut.result.now c.grow.new.self c.loop-at.invariant.0 c.index_mut.ensures.value c.in_err-grow.ensures.unchanged)

pub loop-at-preserved : goal.loop-at-preserved
loop-at-preserved c =
    let n = zip_count c.args.rows.now.items c.loop-at.rows.items c.loop-at.invariant.0 in
    let within : c.loop-at.at < length c.loop-at.rows.items = omega (arith, c.loop-at-test.true, c.len-at-end.ensures, n) in (
      zip_set c.args.rows.now.items c.loop-at.rows.items c.loop-at.at c.index_mut.result.now c.grow.new.self c.loop-at.invariant.0
          (subst (λ (row : List Bool). IsLonger row c.grow.new.self) c.index_mut.ensures.value (longer_by c.index_mut.result.now c.grow.new.self c.args.n c.in_ok-grow.ensures.grown)),
      All-same (λ (row : List Bool). c.args.n ≤ length row) _ _ (take_more_set c.loop-at.rows.items c.loop-at.at c.grow.new.self within)
          (All-push (λ (row : List Bool). c.args.n ≤ length row) (take c.loop-at.at c.loop-at.rows.items) c.grow.new.self c.loop-at.invariant.1 (long_by c.index_mut.result.now c.grow.new.self c.args.n c.in_ok-grow.ensures.grown)),
    )

pub returns-clause-same : goal.returns-clause-same
returns-clause-same c = zip_rows c.args.rows.now.items c.loop-at.rows.items c.loop-at.invariant.0

pub returns-clause-wide : goal.returns-clause-wide
returns-clause-wide c = λ m. zip_wide c.args.rows.now.items c.loop-at.rows.items m c.loop-at.invariant.0

pub returns-clause-long : goal.returns-clause-long
returns-clause-long c =
    let n = zip_count c.args.rows.now.items c.loop-at.rows.items c.loop-at.invariant.0 in
    All-same (λ (row : List Bool). c.args.n ≤ length row) _ _ (sym (take_all c.loop-at.at c.loop-at.rows.items (omega (arith, c.loop-at-test.false, c.len-at-end.ensures, n)))) c.loop-at.invariant.1
