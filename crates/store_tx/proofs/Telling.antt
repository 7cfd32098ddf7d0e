-- Lines that ask for the layout, and others.
use Rattle.std.proofs.Common.{◌≡◌, true, List, ℕ, Option, refl, sym, ap, ◌∙◌}
use Rattle.std.proofs.lemmas.Bool.{false≢true}
use Rattle.db_value.specs.declared.report.LayoutLine.{LayoutLine}
use Rattle.db_value.specs.declared.reply.Reply.{Reply}
use Rattle.db_value.specs.declared.reply.Reply.TheVariants.{Layout}
use Rattle.db_store.specs.State.{State}
use Rattle.db_store.specs.Report.{lines_of}
use Rattle.stmt_text.specs.declared.stmt.Stmt.{Stmt}
use Rattle.stmt_text.specs.declared.stmt.Stmt.TheVariants.{Begin, Segments}
use Rattle.store_tx.specs.Ends.{is_end}
use Rattle.store_tx.specs.Statements.{told_on}
use Rattle.store_tx.specs.Statements.{told_on}

pub other_told : (s : State) (x : Stmt) (r : Reply) → (x ≡ Segments → ⊥) → told_on s x r ≡ r
other_told s Segments r n = absurd (n refl)
other_told s _ r n = refl

pub layout_told : (s : State) (x : Stmt) (t r : Reply) (lines : List LayoutLine) → x ≡ Segments → t ≡ Layout lines → lines ≡ lines_of s → t ≡ told_on s x r
layout_told s x t r lines is told all = told ∙ ap Layout all ∙ sym (ap (λ (y : Stmt). told_on s y r) is)

-- an end of a transaction asks for none
pub end_told : (s : State) (x : Stmt) (r : Reply) → is_end x ≡ true → told_on s x r ≡ r
end_told s Segments r e = absurd (false≢true e)
end_told s _ r e = refl

-- and so does its begin
pub begin_told : (s : State) (x : Stmt) (r : Reply) (room : Option ℕ) → x ≡ Begin room → told_on s x r ≡ r
begin_told s x r room is = ap (λ (y : Stmt). told_on s y r) is
