-- What a merge does in a transaction that has changed nothing yet.
use Rattle.std.specs.Prelude.{ℕ, nat_le, cond, List, [], ◌∷◌, length, Option, Some, None}
use Rattle.std.proofs.Common.{get_or}
use Rattle.db_value.specs.Relations.{no_relation, columns_at}
use Rattle.db_value.specs.declared.schema.Relation.{Relation}
use Rattle.db_value.specs.declared.condition.Prefer.{Prefer}
use Rattle.db_value.specs.declared.entry.Change.{Change}
use Rattle.db_value.specs.declared.version.VersionPlace.{VersionPlace}
use Rattle.db_value.specs.declared.reply.Refusal.{Refusal}
use Rattle.db_value.specs.declared.reply.Refusal.TheVariants.{Conflict, TableFull, Room}
use Rattle.db_store.specs.Table.{Table, with_changes}
use Rattle.db_store.specs.Adopt.{full_from}
use Rattle.db_store.specs.RowWidths.{all_widths}
use Rattle.field_merge.specs.Merge.{Clash, least_clash, table_changes, table_clashes}
use Rattle.branch_tx.specs.Keeping.{Keeping}
use Rattle.branch_tx.specs.Act.{Tx, Outcome, Ground, refused, unless_full, taken_to}

-- the name of a relation, by its number
abbrev pub relation_name : List Relation → ℕ → List ℕ
relation_name schema r = (get_or schema r no_relation).name

-- the name of a field that is in conflict; none for the whole record
abbrev pub field_name : List Relation → ℕ → Option ℕ → Option (List ℕ)
field_name schema r None = None
field_name schema r (Some c) = Some (get_or (columns_at schema r) c [])

-- the refusal of a merge that meets this clash
abbrev pub conflict_in : List Relation → Clash → Refusal
conflict_in schema c = Conflict (relation_name schema c.relation) c.key (field_name schema c.relation c.field)

-- why a merge is refused: by its least conflict, by the first relation that would have more keys than it can have, or because its changes outnumber the room
abbrev pub merge_refusal : List Relation → ℕ → ℕ → Option Clash → Option ℕ → Option Refusal
merge_refusal schema room count (Some c) full = Some (conflict_in schema c)
merge_refusal schema room count None (Some r) = Some (TableFull (relation_name schema r))
merge_refusal schema room count None None = cond (nat_le count room) None (Some (Room room))

-- why the merge of three tables is refused
abbrev pub refusal_of_merge : List Relation → ℕ → Prefer → Table → Table → Table → Option Refusal
refusal_of_merge schema room prefer base left right =
    merge_refusal schema room (length (table_changes (all_widths schema) prefer base left right)) (least_clash (table_clashes prefer base left right)) (full_from 0 (with_changes left (table_changes (all_widths schema) prefer base left right)))

module _ {W : Type 0} (k : Keeping W) where
  -- several keys set, from left to right, and touched
  abbrev pub put_all : W → List Change → W
  put_all w [] = w
  put_all w (c ∷ cs) = put_all (k.put w c.relation c.key c.fields) cs

  -- an accepted merge sets the keys that change, and gives its second parent
  abbrev pub merged_to : List Relation → Tx W → VersionPlace → List Change → Option Refusal → Outcome W
  merged_to schema tx from changes (Some why) = refused tx why
  merged_to schema tx from changes None = taken_to k schema tx (Some from) (put_all tx.work changes)

  -- a merge of the right table, which stands at a place, into the left one
  abbrev pub merge_free : List Relation → Tx W → VersionPlace → Prefer → Table → Table → Table → Outcome W
  merge_free schema tx from prefer base left right = merged_to schema tx from (table_changes (all_widths schema) prefer base left right) (refusal_of_merge schema tx.room prefer base left right)

  abbrev pub merge_in : Ground → Tx W → VersionPlace → Prefer → Table → Table → Table → Outcome W
  merge_in g tx from prefer base left right = unless_full g tx (merge_free g.schema tx from prefer base left right)
