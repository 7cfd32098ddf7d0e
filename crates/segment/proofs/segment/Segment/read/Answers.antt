use Rattle.std.proofs.Common.{arith, ◌≡◌, ◌<◌, ◌≤◌, ◌%◌, ◌∙◌, ℕ, List, length, ap, sym, subst}
use Rattle.std.specs.Int.{w16}
use Rattle.std.proofs.Math.Facts.{Fits-of_lt}
use Rattle.std.proofs.Math.Nat.{mod-lt}
use Rattle.record_page.specs.Page.{Rows, capacity, record_at}
use Rattle.record_page.proofs.Pages.{few_records, some_column}
use Rattle.segment.proofs.PageLemmas.{capacity_some, slot_here}
use Rattle.segment.proofs.segment.Segment.read.Goals as goal

pub nonzero_div-slot : goal.nonzero_div-slot
nonzero_div-slot g c = let some = capacity_some c.self.inside.widths c.self.invariant.1.1.are in omega (arith, some, c.self.invariant.1.0)

pub nonzero_rem-slot : goal.nonzero_rem-slot
nonzero_rem-slot g c = let some = capacity_some c.self.inside.widths c.self.invariant.1.1.are in omega (arith, some, c.self.invariant.1.0)

pub overflow_cast-slot-2 : goal.overflow_cast-slot-2
overflow_cast-slot-2 g c =
    let ws : List ℕ = c.self.inside.widths in
    let most : ℕ = c.self.inside.most in
    let e : most ≡ capacity ws = c.self.invariant.1.0 in
    let some : 0 < capacity ws = capacity_some ws c.self.invariant.1.1.are in
    let few : capacity ws ≤ 453 = few_records ws (capacity ws) (some_column ws c.self.invariant.1.1.are).0 (omega arith) in
    let less : c.args.slot % most < most = mod-lt c.args.slot {m = most} (omega (arith, some, e)) in
    Fits-of_lt {w = w16} {n = c.args.slot % most} (omega (arith, less, few, e))

pub read-requires : goal.read-requires
read-requires g c =
    let most : ℕ = c.self.inside.most in
    let e : most ≡ capacity c.self.inside.widths = c.self.invariant.1.0 in
    let some = capacity_some c.self.inside.widths c.self.invariant.1.1.are in
    let here = slot_here c.args.self.now c.args.slot most (e ∙ ap (λ (v : Rows). capacity v.widths) c.self.view_is) (omega (arith, some, e)) c.requires in
    subst (λ (p : Rows). c.args.slot % most < length p.records) (sym c.page_there-page.ensures) here.0

pub returns-clause-row : goal.returns-clause-row
returns-clause-row g c =
    let most : ℕ = c.self.inside.most in
    let e : most ≡ capacity c.self.inside.widths = c.self.invariant.1.0 in
    let some = capacity_some c.self.inside.widths c.self.invariant.1.1.are in
    let here = slot_here c.args.self.now c.args.slot most (e ∙ ap (λ (v : Rows). capacity v.widths) c.self.view_is) (omega (arith, some, e)) c.requires in
    c.read.ensures.row ∙ ap (λ (p : Rows). record_at p.records (c.args.slot % most)) c.page_there-page.ensures ∙ here.1
