use Rattle.std.proofs.Common.{◌∙◌, ◌<◌, List, length, ap, arith}
use Rattle.std.proofs.lemmas.List.{length-map}
use Rattle.db_value.specs.Marks.{marked_here}
use Rattle.db_value.specs.declared.record.Marked.{Marked}
use Rattle.multi_scan.specs.Kept.{row_at}
use Rattle.multi_scan.proofs.KeptLemmas.{here_is}
use Rattle.multi_scan.proofs.found.FoundRows.positions.Goals as goal

pub returns : goal.returns
returns c =
    let records = c.self.inside.records in
    let rows = c.self.inside.rows.items in
    let f = c.index.result.now in
    let within : c.args.index < length rows = omega (arith, c.requires, ap length c.self.view_is, length-map rows (row_at records)) in
    ap (λ (m : Marked). m.positions) (ap (row_at records) c.index.ensures ∙ here_is records rows c.args.index f within ∙ ap (λ (ms : List Marked). marked_here ms c.args.index) c.self.view_is)
