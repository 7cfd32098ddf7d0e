use Rattle.std.proofs.Common.{arith, ap, sym, subst, ◌∙◌, ◌<◌, length, get_or, List, [], ℕ}
use Rattle.db_value.specs.Marks.{marked_here}
use Rattle.db_value.specs.declared.record.Marked.{Marked}
use Rattle.db_value.proofs.MarkLemmas.{marks_many, positions_alone, positions_marked}
use Rattle.db_value.proofs.rows.Rows.positions.Goals as goal

pub returns-in-None : goal.returns-in-None
returns-in-None c =
    ap (λ (ms : List Marked). (marked_here ms c.args.index).positions) (sym c.self.view_is)
    ∙ positions_alone _ c.self.inside.marks c.args.index c.in-None.is (subst (λ (ms : List Marked). c.args.index < length ms) (sym c.self.view_is) c.requires)

pub positions_at-requires : goal.positions_at-requires
positions_at-requires c =
    let n = ap (λ (ps : List (List ℕ)). length ps) c.as_slice.ensures in
    let m = marks_many _ c.self.inside.marks c.in-Some.marks c.self.invariant c.in-Some.is in
    let v = ap (λ (ms : List Marked). length ms) c.self.view_is in
    let h = c.requires in
    omega (arith, n, m, v, h)

pub returns-in-Some : goal.returns-in-Some
returns-in-Some c =
    ap (λ (ms : List Marked). (marked_here ms c.args.index).positions) (sym c.self.view_is)
    ∙ positions_marked _ c.self.inside.marks c.in-Some.marks c.args.index c.self.invariant c.in-Some.is
    ∙ ap (λ (ps : List (List ℕ)). get_or ps c.args.index []) (sym c.as_slice.ensures)
    ∙ c.positions_at.ensures
