use Rattle.std.proofs.Common.{◌≡◌, ◌∙◌, true, false, ap, sym, arith}
use Rattle.db_value.specs.Marks.{marked_here}
use Rattle.db_value.specs.Order.{record_eq}
use Rattle.db_value.specs.declared.record.Record.{Record}
use Rattle.multi_scan.proofs.Runs.{same_more, other_here, none_left}
use Rattle.multi_scan.proofs.scans.run_end.Goals as goal

pub loop-at-preserved : goal.loop-at-preserved
loop-at-preserved c =
    let found = c.args.found.now in
    let row = c.args.row.now in
    let here : record_eq (marked_here found c.loop-at.at).row row ≡ true = ap (λ (r : Record). record_eq r row) (sym c.read.ensures) ∙ sym c.eq-same.ensures ∙ c.if-not-same.false in
    let more = same_more found c.loop-at.at row (omega (arith, c.loop-at-test.true, c.len-len.ensures)) here in
    record {
      same = omega (arith, c.loop-at.invariant.same, c.loop-at.invariant.from, more);
      from = omega (arith, c.loop-at.invariant.from);
    }

pub returns-then-not-same-clause-value : goal.returns-then-not-same-clause-value
returns-then-not-same-clause-value c =
    let found = c.args.found.now in
    let row = c.args.row.now in
    let other : record_eq (marked_here found c.loop-at.at).row row ≡ false = ap (λ (r : Record). record_eq r row) (sym c.read.ensures) ∙ sym c.eq-same.ensures ∙ c.if-not-same.true in
    let none = other_here found c.loop-at.at row (omega (arith, c.loop-at-test.true, c.len-len.ensures)) other in
    omega (arith, c.loop-at.invariant.same, none)

-- no row is left behind the last one
pub returns-clause-value : goal.returns-clause-value
returns-clause-value c =
    let none = none_left c.args.found.now c.loop-at.at c.args.row.now (omega (arith, c.loop-at-test.false, c.len-len.ensures)) in
    omega (arith, c.loop-at.invariant.same, none, c.loop-at-test.false, c.len-len.ensures, c.requires)
