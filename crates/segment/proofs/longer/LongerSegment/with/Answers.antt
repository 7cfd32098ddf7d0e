use Rattle.std.proofs.Common.{◌≡◌, List, ℕ, true, sym, subst}
use Rattle.db_value.specs.Widths.{meets}
use Rattle.db_value.specs.declared.record.Record.{Record}
use Rattle.record_page.specs.Page.{Rows}
use Rattle.segment.specs.Pages.{AreWide}
use Rattle.segment.specs.Tails.{rows_in}
use Rattle.segment.proofs.PageLemmas.{wide_push}
use Rattle.segment.proofs.longer.LongerSegment.with.Goals as goal

pub of-requires-clause-wide : goal.of-requires-clause-wide
of-requires-clause-wide c =
    let ws : List ℕ = c.self.inside.tail.widths in
    let met : meets ws c.args.row.now.fields ≡ true = subst (λ (v : Rows). meets v.widths c.args.row.now.fields ≡ true) (sym c.self.view_is) c.requires.meets in
    subst (λ (us : List ℕ). AreWide us (rows_in c.push-2.new.self)) (sym c.in_ok-push-2.ensures.widths)
    (subst (λ (rows : List Record). AreWide ws rows) (sym c.in_ok-push-2.ensures.rows) (wide_push ws (rows_in c.self.inside.tail) c.args.row.now c.self.invariant.1.0 met))
