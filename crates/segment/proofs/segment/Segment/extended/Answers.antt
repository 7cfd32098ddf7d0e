use Rattle.std.proofs.Common.{◌≡◌, ◌++◌, ◌∷◌, [], ℕ, List, true, ap, sym, ◌∙◌, subst, take, append_assoc}
use Rattle.std.proofs.lemmas.Option.{get_or_from_slice_get, slice_get_within}
use Rattle.db_value.specs.Widths.{meets}
use Rattle.db_value.specs.declared.record.Record.{Record}
use Rattle.record_page.specs.Page.{Rows}
use Rattle.db_value.proofs.Places.{taken_one}
use Rattle.segment.proofs.segment.Segment.extended.Goals as goal

pub with-requires-clause-meets : goal.with-requires-clause-meets
with-requires-clause-meets c =
    let rows : List Record = c.args.rows.now in
    let i : ℕ = c.loop-index.index in
    let row : Record = c.read.new.into in
    let read = c.read.ensures in
    let same = get_or_from_slice_get rows i row (record { key = 0; fields = [] }) read in
    let met = subst (λ (r : Record). meets c.args.self.now.widths r.fields ≡ true) same (c.requires.wide i (slice_get_within rows i row read)) in
    subst (λ (ws : List ℕ). meets ws row.fields ≡ true) (sym (ap (λ (v : Rows). v.widths) c.loop-index.invariant)) met

pub loop-index-preserved : goal.loop-index-preserved
loop-index-preserved c =
    let rows : List Record = c.args.rows.now in
    let i : ℕ = c.loop-index.index in
    let row : Record = c.read.new.into in
    let all : Rows = c.args.self.now in
    c.in_ok-longer-2.ensures
    ∙ ap (λ (v : Rows). record v { records = v.records ++ row ∷ [] }) c.loop-index.invariant
    ∙ ap (λ (rs : List Record). record all { records = rs }) (append_assoc all.records (take i rows) (row ∷ []) ∙ ap (λ (rs : List Record). all.records ++ rs) (taken_one rows i row c.read.ensures))
