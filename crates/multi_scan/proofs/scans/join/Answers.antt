use Rattle.std.proofs.Common.{◌≡◌, ◌∙◌, ◌++◌, ◌∷◌, [], ℕ, List, length, refl, ap, ap₂, sym, subst, arith, length-append}
use Rattle.db_value.specs.Marks.{mark}
use Rattle.db_value.specs.declared.record.Record.{Record}
use Rattle.db_value.specs.declared.record.Marked.{Marked}
use Rattle.multi_scan.specs.Found.{joined, AreInOrder}
use Rattle.multi_scan.proofs.Runs.{run_at, run_all, mark_more}
use Rattle.multi_scan.proofs.scans.join.Goals as goal

pub runs-init : goal.runs-init
runs-init c =
    let none : mark c.in_ok-rows.rows c.in_ok-marks.marks.items ≡ [] = ap₂ (λ (rs : List Record) (ps : List (List ℕ)). mark rs ps) c.in_ok-rows.ensures c.in_ok-marks.ensures.items in
    record {
      runs = ([], refl, subst (λ (ms : List Marked). AreInOrder [] ms) (sym none) tt);
      even = ap length c.in_ok-marks.ensures.items ∙ sym (ap length c.in_ok-rows.ensures);
    }

pub runs-preserved : goal.runs-preserved
runs-preserved c =
    let found = c.args.found.now in
    let at = c.runs.at in
    let to = c.run_end-to.result in
    let row = c.read.new.into in
    let rows = c.runs.rows in
    let marks = c.runs.marks.items in
    let more : mark c.push.new.self c.push-in-runs.new.self.items ≡ mark rows marks ++ record { row = row; positions = c.in_ok-positions.positions } ∷ [] =
    ap₂ (λ (rs : List Record) (ps : List (List ℕ)). mark rs ps) c.in_ok-push.ensures.pushed c.in_ok-push-2.ensures.items ∙ mark_more rows row marks c.in_ok-positions.positions c.runs.invariant.even in
    record {
      runs = run_at found (mark rows marks) (mark c.push.new.self c.push-in-runs.new.self.items) at to row c.in_ok-positions.positions (omega (arith, c.run_end-to.ensures.from)) c.run_end-to.ensures.within c.read.ensures c.run_end-to.ensures.value c.in_ok-positions.ensures more c.runs.invariant.runs;
      even = omega (arith, c.runs.invariant.even, ap length c.in_ok-push.ensures.pushed, ap length c.in_ok-push-2.ensures.items, length-append rows (row ∷ []), length-append marks (c.in_ok-positions.positions ∷ []));
    }

pub returns : goal.returns
returns c =
    subst (λ (ms : List Marked). AreInOrder (joined c.args.found.now) ms) (sym c.in_ok-joined.ensures)
    (run_all c.args.found.now (mark c.runs.rows c.runs.marks.items) c.runs.at (omega (arith, c.runs-test.false, c.len.ensures)) c.runs.invariant.runs)
