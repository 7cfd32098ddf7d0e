use Rattle.std.proofs.Common.{◌≡◌, ◌∙◌, ◌++◌, ◌∷◌, [], ℕ, List, map, ap, ap₂}
use Rattle.db_value.specs.declared.record.Record.{Record}
use Rattle.db_value.specs.declared.record.Marked.{Marked}
use Rattle.multi_scan.specs.declared.found.FoundRow.{FoundRow}
use Rattle.multi_scan.specs.Kept.{row_at}
use Rattle.multi_scan.proofs.KeptLemmas.{all_stay, all_more, rows_more, last_row}
use Rattle.multi_scan.proofs.found.FoundRows.push.Goals as goal

pub invariant_of-self : goal.invariant_of-self
invariant_of-self c = rw (c.in_err-push.ensures.same) c.self.invariant

pub invariant_of-self-in_err-push-2 : goal.invariant_of-self-in_err-push-2
invariant_of-self-in_err-push-2 c = rw (c.in_ok-push.ensures.pushed, c.in_err-push-2.ensures.items) (all_stay c.self.inside.records c.args.row.now c.self.inside.rows.items c.self.invariant)

pub invariant_of-self-2 : goal.invariant_of-self-2
invariant_of-self-2 c =
    let rows : c.push-2.new.self.items ≡ c.self.inside.rows.items ++ last_row c.self.inside.records c.args.positions ∷ [] =
    c.in_ok-push-2.ensures.items ∙ ap (λ (n : ℕ). c.self.inside.rows.items ++ record { place = n; positions = c.args.positions } ∷ []) c.len-place.ensures in
    rw (c.in_ok-push.ensures.pushed, rows) (all_more c.self.inside.records c.args.row.now c.args.positions c.self.inside.rows.items c.self.invariant)

pub returns : goal.returns
returns c =
    let rows : c.push-2.new.self.items ≡ c.self.inside.rows.items ++ last_row c.self.inside.records c.args.positions ∷ [] =
    c.in_ok-push-2.ensures.items ∙ ap (λ (n : ℕ). c.self.inside.rows.items ++ record { place = n; positions = c.args.positions } ∷ []) c.len-place.ensures in
    ap₂ (λ (rs : List Record) (fs : List FoundRow). map (row_at rs) fs) c.in_ok-push.ensures.pushed rows
    ∙ rows_more c.self.inside.records c.args.row.now c.args.positions c.self.inside.rows.items c.self.invariant
    ∙ ap (λ (ms : List Marked). ms ++ record { row = c.args.row.now; positions = c.args.positions } ∷ []) c.self.view_is
