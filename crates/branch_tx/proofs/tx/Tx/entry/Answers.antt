use Rattle.std.proofs.Common.{◌≡◌, ◌≤◌, ℕ, List, true, Bool, cond, Option, Some, None, ap, sym, subst, ◌∙◌}
use Rattle.db_value.specs.declared.entry.Change.{Change}
use Rattle.db_value.specs.declared.version.VersionPlace.{VersionPlace}
use Rattle.db_value.specs.declared.entry.Entry.TheVariants.{Commit}
use Rattle.db_store.specs.Body.{commit_size, most_entry}
use Rattle.db_store.specs.Overlay.{changes_from}
use Rattle.db_store.specs.RowWidths.{all_widths}
use Rattle.db_store.specs.WorkState.{overlays_of}
use Rattle.branch_tx.specs.Granted.{Granted, has_done}
use Rattle.branch_tx.proofs.tx.Tx.entry.Goals as goal

pub returns-clause-entry : goal.returns-clause-entry
returns-clause-entry g c =
    let old : Granted = c.args.self.now in
    let all : List Change = changes_from (all_widths old.schema) 0 old.overlays in
    let cs : c.in_ok-changes.changes ≡ all = c.in_ok-changes.ensures.changes ∙ ap (λ (wss : List (List ℕ)). changes_from wss 0 (overlays_of c.self.inside.work)) c.self.invariant.3 ∙ ap (λ (x : Granted). changes_from (all_widths x.schema) 0 x.overlays) c.self.view_is in
    let second = c.second.ensures ∙ ap (λ (x : Granted). x.second) c.self.view_is in
    let has : has_done old ≡ true = sym c.has_done.ensures ∙ c.if-not-has_done.false in
    (λ i. Some (Commit c.args.branch (second i) (cs i)))
    ∙ ap (λ (q : Bool). cond q (Some (Commit c.args.branch old.second all)) None) (sym has)

pub returns-clause-short : goal.returns-clause-short
returns-clause-short g c = subst (λ (s : Option VersionPlace). commit_size s c.in_ok-changes.changes ≤ most_entry) (sym c.second.ensures) c.in_ok-changes.ensures.short
