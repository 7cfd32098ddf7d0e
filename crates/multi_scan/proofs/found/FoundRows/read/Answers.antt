use Rattle.std.proofs.Common.{◌∙◌, ◌<◌, List, length, ap, sym, subst, arith}
use Rattle.std.proofs.lemmas.List.{length-map}
use Rattle.std.proofs.lemmas.Option.{get_or_from_slice_get}
use Rattle.db_value.specs.Marks.{marked_here}
use Rattle.db_value.specs.declared.record.Marked.{Marked}
use Rattle.multi_scan.specs.Kept.{row_at, IsThere}
use Rattle.multi_scan.proofs.KeptLemmas.{there_at, here_is, record_is, no_record}
use Rattle.multi_scan.proofs.found.FoundRows.read.Goals as goal

pub read-requires : goal.read-requires
read-requires c =
    let records = c.self.inside.records in
    let rows = c.self.inside.rows.items in
    let f = c.index.result.now in
    let within : c.args.index < length rows = omega (arith, c.requires, ap length c.self.view_is, length-map rows (row_at records)) in
    subst (IsThere records) (sym c.index.ensures) (there_at records rows c.args.index f c.self.invariant within)

pub returns : goal.returns
returns c =
    let records = c.self.inside.records in
    let rows = c.self.inside.rows.items in
    let f = c.index.result.now in
    let within : c.args.index < length rows = omega (arith, c.requires, ap length c.self.view_is, length-map rows (row_at records)) in
    let there : IsThere records f = subst (IsThere records) (sym c.index.ensures) (there_at records rows c.args.index f c.self.invariant within) in
    sym (get_or_from_slice_get records f.place c.read.new.into no_record c.read.ensures)
    ∙ record_is records f there
    ∙ ap (λ (m : Marked). m.row) (ap (row_at records) c.index.ensures ∙ here_is records rows c.args.index f within ∙ ap (λ (ms : List Marked). marked_here ms c.args.index) c.self.view_is)
