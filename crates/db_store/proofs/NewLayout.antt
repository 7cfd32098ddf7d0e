-- The new layout, and the law of growth as one of states.
use Rattle.std.proofs.Common.{◌≡◌, true, List, [], ◌∷◌, ap, sym, ◌∙◌, Some, None}
use Rattle.std.specs.FinMap as finite
use Rattle.std.proofs.lemmas.List.{length-map, get_or-map}
use Rattle.db_value.specs.declared.schema.Relation.{Relation}
use Rattle.db_value.specs.declared.entry.Entry.{Entry}
use Rattle.std.specs.Prelude.{codes}
use Rattle.db_store.specs.Table.{empty_table}
use Rattle.db_store.specs.Dataset.{root, new_dataset}
use Rattle.db_store.specs.Fits.{fits}
use Rattle.db_store.specs.Layout.{Layout, contents_of, live_in, segments_at, rows_at, lane_at, table_in, dataset_in, head_segment, head_row, new_layout}
use Rattle.db_store.specs.LayoutGrowth.{grow_layout}
use Rattle.db_store.specs.LaidOut.{IsLaid}
use Rattle.db_store.specs.State.{laid, grow}
use Rattle.db_store.proofs.SegmentLemmas.{at_relation}
use Rattle.db_store.proofs.LayoutLaw.{table_is, layout_law}
use Rattle.db_store.proofs.LaidLemmas.{new_is_laid}

pub layout_grows : (l : Layout) (e : Entry) → IsLaid l → fits (dataset_in l) e ≡ true → grow (laid l) e ≡ laid (grow_layout l e)
layout_grows l e is f = λ i. record { dataset = sym (layout_law l e is f) i; layout = Some (grow_layout l e) }

new_table : (schema : List Relation) → table_in schema (new_layout schema).segments (lane_at (new_layout schema) 0) 0 ≡ empty_table schema
new_table schema =
    table_is schema (λ r. contents_of (live_in (segments_at (new_layout schema).segments r) 0 (rows_at (lane_at (new_layout schema) 0) r))) (empty_table schema) (length-map schema (λ _. finite.empty))
    (λ r h.
    ap (λ ss. contents_of (live_in ss 0 (rows_at (lane_at (new_layout schema) 0) r))) (at_relation schema (λ k. head_segment 0 ∷ []) r [] h)
    ∙ ap (λ rows. contents_of (live_in (head_segment 0 ∷ []) 0 rows)) (at_relation schema (λ k. head_row 0 0 ∷ []) r [] h)
    ∙ sym (get_or-map (λ _. finite.empty) schema r (record { name = []; columns = [] }) finite.empty h))

pub new_laid : (schema : List Relation) → IsLaid (new_layout schema) × (dataset_in (new_layout schema) ≡ new_dataset schema)
new_laid schema = (
  new_is_laid schema,
  λ i. record {
    schema = schema;
    branches = record { name = codes "master"; origin = root; base = root; versions = record { table = new_table schema i; second = None } ∷ [] } ∷ [];
    order = root ∷ [];
  },
)
