use Rattle.std.proofs.Common.{◌≡◌, ◌∙◌, [], ◌∷◌, ◌++◌, List, IfOk, sym, subst, arith}
use Rattle.db_value.specs.PackedChanges.{change_here}
use Rattle.db_value.specs.declared.record.Record.{Record}
use Rattle.record_page.specs.Page.{Rows}
use Rattle.segment.specs.Pages.{AreWide}
use Rattle.db_store.specs.LayoutGrowth.{puts}
use Rattle.hybrid_view.proofs.PutLemmas.{put_is}
use Rattle.hybrid_view.proofs.puts.with_put.Goals as goal

pub with-requires-clause-meets : goal.with-requires-clause-meets
with-requires-clause-meets c =
    let z = change_here c.args.changes.now c.args.at in
    let row = c.read.new.into in
    let is : puts (z ∷ []) c.args.relation ≡ row ∷ [] = put_is z c.args.relation row (sym c.relation-own.ensures ∙ c.if-own-relation.false) (sym c.read.ensures.puts ∙ c.if-not-read.false) c.read.ensures.key c.read.ensures.fields in
    let one : AreWide c.args.longer.widths (row ∷ []) = subst (λ (l : List Record). AreWide c.args.longer.widths l) is c.requires.wide in
    one 0 (omega arith)

pub returns : goal.returns
returns c =
    let z = change_here c.args.changes.now c.args.at in
    let row = c.read.new.into in
    let is : puts (z ∷ []) c.args.relation ≡ row ∷ [] = put_is z c.args.relation row (sym c.relation-own.ensures ∙ c.if-own-relation.false) (sym c.read.ensures.puts ∙ c.if-not-read.false) c.read.ensures.key c.read.ensures.fields in
    subst (λ (l : List Record). IfOk c.with.result (λ (x : Rows). x ≡ record { widths = c.args.longer.widths; records = c.args.longer.records ++ l })) (sym is) c.with.ensures
