use Rattle.std.proofs.Common.{◌≡◌, ◌∙◌, ◌++◌, [], List, drop, sym, ap, append-nil, arith}
use Rattle.std.specs.List.{flat_map}
use Rattle.std.proofs.Math.ListN.{drop_of_length-le}
use Rattle.db_value.specs.declared.record.Record.{Record}
use Rattle.csv_port.specs.Written.{row_text}
use Rattle.csv_port.proofs.ValueLemmas.{item_here, next_part}
use Rattle.csv_port.proofs.written.push_rows.Goals as goal

pub loop-at-preserved : goal.loop-at-preserved
loop-at-preserved c =
    let rows = c.args.rows.now in
    let here = item_here rows c.loop-at.at c.read.new.into c.read.ensures in
    next_part row_text c.loop-at.out.items _ _ c.read.new.into (drop c.loop-at.at rows) _ here c.in_ok-push_row.ensures c.loop-at.invariant

pub returns : goal.returns
returns c =
    let none : drop c.loop-at.at c.args.rows.now ≡ [] = drop_of_length-le c.args.rows.now (omega (arith, c.loop-at-test.false, c.len-at-end.ensures)) in
    sym (ap (λ (rs : List Record). c.loop-at.out.items ++ flat_map row_text rs) none ∙ append-nil c.loop-at.out.items) ∙ c.loop-at.invariant
