use Rattle.std.proofs.Common.{◌≡◌, ◌<◌, ◌≤◌, ◌+◌, ◌∙◌, ℕ, List, true, false, Option, Some, None, arith, ap, sym, subst, length, map, nat_lt}
use Rattle.std.specs.List.{list_all}
use Rattle.std.proofs.lemmas.Bool.{le-leb}
use Rattle.db_value.specs.declared.entry.Change.{Change}
use Rattle.db_store.specs.Body.{commit_size, most_entry}
use Rattle.db_store.specs.Bulk.{bulk_of, with_own}
use Rattle.db_store.specs.Overlay.{Overlay, untouched, changes_from, count_touched}
use Rattle.db_store.specs.Layers.{overlays_in}
use Rattle.db_store.specs.Adopt.{touched_by}
use Rattle.db_store.proofs.AdoptLemmas.{within_more, count_by}
use Rattle.db_store.proofs.BodyLemmas.{bulk_merged, body_bulk, sure_short}
use Rattle.db_store.proofs.work.Work.bulk_by.Goals as goal

pub returns-then-self-clause-fits : goal.returns-then-self-clause-fits
returns-then-self-clause-fits g c =
    let w = c.args.self.now in
    let cs : List Change = c.args.changes.now in
    let after : List Overlay = touched_by (overlays_in w.touched.keys) cs in
    let relations = within_more (length (g.V.View.table w.view)) 8 cs w.viewable.relations c.requires.changes.relations in
    let many : count_touched after ≡ length cs = ap (λ (o : List Overlay). count_touched (touched_by o cs)) c.requires.untouched ∙ count_by cs relations c.requires.changes.differ in
    sym (le-leb (commit_size (Some c.args.from) (changes_from w.widths.items 0 after)) most_entry (sure_short (Some c.args.from) w.widths.items after w.touched.room w.touched.most w.sized (omega (arith, many, c.requires.room)) (w.enough c.if-self.true)))

pub bulk_of-bulk-requires-clause-few : goal.bulk_of-bulk-requires-clause-few
bulk_of-bulk-requires-clause-few g c = omega (arith, c.requires.room, c.args.self.now.wide)

pub bulk_of-bulk-requires-clause-relations : goal.bulk_of-bulk-requires-clause-relations
bulk_of-bulk-requires-clause-relations g c =
    let w = c.args.self.now in
    let eight : length c.deref.result.now ≡ 8 = ap length c.deref.ensures.value ∙ w.known in
    subst (λ n. list_all (λ (d : Change). nat_lt d.relation n) c.args.changes.now ≡ true) (sym eight) (within_more (length (g.V.View.table w.view)) 8 c.args.changes.now w.viewable.relations c.requires.changes.relations)

pub returns-then-not-fits-clause-fits : goal.returns-then-not-fits-clause-fits
returns-then-not-fits-clause-fits g c =
    let w = c.args.self.now in
    let cs : List Change = c.args.changes.now in
    let relations = within_more (length (g.V.View.table w.view)) 8 cs w.viewable.relations c.requires.changes.relations in
    let is = c.bulk_of-bulk.ensures ∙ ap (λ (wss : List (List ℕ)). bulk_of (map (with_own wss) cs)) c.deref.ensures.value ∙ bulk_merged w.widths.items cs relations c.requires.changes.differ ∙ ap (λ (o : List Overlay). bulk_of (changes_from w.widths.items 0 (touched_by o cs))) (sym c.requires.untouched) in
    sym c.if-not-fits.true ∙ c.fits.ensures ∙ body_bulk (Some c.args.from) (changes_from w.widths.items 0 (touched_by (overlays_in w.touched.keys) cs)) c.bulk_of-bulk.result is

pub returns-clause-fits : goal.returns-clause-fits
returns-clause-fits g c =
    let w = c.args.self.now in
    let cs : List Change = c.args.changes.now in
    let relations = within_more (length (g.V.View.table w.view)) 8 cs w.viewable.relations c.requires.changes.relations in
    let is = c.bulk_of-bulk.ensures ∙ ap (λ (wss : List (List ℕ)). bulk_of (map (with_own wss) cs)) c.deref.ensures.value ∙ bulk_merged w.widths.items cs relations c.requires.changes.differ ∙ ap (λ (o : List Overlay). bulk_of (changes_from w.widths.items 0 (touched_by o cs))) (sym c.requires.untouched) in
    sym c.if-not-fits.false ∙ c.fits.ensures ∙ body_bulk (Some c.args.from) (changes_from w.widths.items 0 (touched_by (overlays_in w.touched.keys) cs)) c.bulk_of-bulk.result is

pub returns-clause-bulk : goal.returns-clause-bulk
returns-clause-bulk g c = λ e.
    let w = c.args.self.now in
    let cs : List Change = c.args.changes.now in
    let relations = within_more (length (g.V.View.table w.view)) 8 cs w.viewable.relations c.requires.changes.relations in
    c.bulk_of-bulk.ensures ∙ ap (λ (wss : List (List ℕ)). bulk_of (map (with_own wss) cs)) c.deref.ensures.value ∙ bulk_merged w.widths.items cs relations c.requires.changes.differ ∙ ap (λ (o : List Overlay). bulk_of (changes_from w.widths.items 0 (touched_by o cs))) (sym c.requires.untouched)
