use Rattle.std.proofs.Common.{◌≡◌, ◌||◌, Bool, true, false, ap, sym, ◌∙◌}
use Rattle.line_needs.specs.Early.{is_early}
use Rattle.line_needs.specs.Known.{is_refusal}
use Rattle.line_needs.proofs.Knowing.{known_early}
use Rattle.branch_tx.specs.Granted.{Granted, has_done}
use Rattle.branch_tx.specs.Covers.{is_granted}
use Rattle.branch_tx.proofs.tx.Tx.covers.Goals as goal

pub returns-then-is_refused : goal.returns-then-is_refused
returns-then-is_refused g c =
    let tx : Granted = c.args.self.now in
    let x = c.args.stmt.now in
    let early : true ≡ is_early tx.schema true (has_done tx) x = sym c.if-is_refused.true ∙ c.is_refused.ensures ∙ ap is_refusal c.requires.known ∙ known_early tx.schema true (has_done tx) x in
    ap (λ (q : Bool). q || is_granted tx x) early

pub returns : goal.returns
returns g c =
    let tx : Granted = c.args.self.now in
    let x = c.args.stmt.now in
    let early : false ≡ is_early tx.schema true (has_done tx) x = sym c.if-is_refused.false ∙ c.is_refused.ensures ∙ ap is_refusal c.requires.known ∙ known_early tx.schema true (has_done tx) x in
    c.is_granted.ensures ∙ ap (λ (q : Bool). q || is_granted tx x) early
