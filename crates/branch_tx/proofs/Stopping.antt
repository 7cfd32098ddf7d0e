-- What a change of a record does in a granted transaction, by the stop of its working table.
use Rattle.std.proofs.Common.{◌≡◌, ℕ, cond, Bool, true, false, List, ap, ◌∙◌, refl, Option, Some, None}
use Rattle.db_value.specs.Value.{Value}
use Rattle.db_value.specs.declared.condition.Set.{Set}
use Rattle.db_value.specs.declared.record.Record.{Record}
use Rattle.db_value.specs.declared.reply.Reply.TheVariants.{Done}
use Rattle.db_value.specs.declared.reply.Refusal.{Refusal}
use Rattle.db_store.specs.declared.work.WorkStop.{WorkStop}
use Rattle.db_store.specs.declared.work.WorkStop.TheVariants.{TableFull, Room, BodyFull}
use Rattle.db_store.specs.Overlay.{Overlay, touch}
use Rattle.db_store.specs.RowWidths.{all_widths}
use Rattle.db_store.specs.Work.{Working, fields_at, insert_stop_at, insert_stop, change_stop_at, change_stop, updated}
use Rattle.branch_tx.specs.Keeping.{Keeping, over_table}
use Rattle.branch_tx.specs.Act.{Outcome, insert_refusal, change_refusal, body_refusal, refused, answered, unless, has_space, has_room, is_body, changed_to, insert_free, update_free, delete_free}
use Rattle.branch_tx.specs.Granted.{Granted, tx_in}
use Rattle.branch_tx.specs.Stops.{refusal_of}

-- its working table with these widths, and with those of its schema
abbrev pub working_with : List (List ℕ) → Granted → Working
working_with wss g = record { below = g.head; overlays = g.overlays; room = g.room; widths = wss; second = g.second }

abbrev pub working_in : Granted → Working
working_in g = working_with (all_widths g.schema) g

module _ (g : Granted) where
  abbrev k : Keeping (List Overlay)
  k = over_table g.head

  -- a key in its final state, or a refusal
  abbrev pub changed_by : ℕ → List ℕ → ℕ → Option (List Value) → Option WorkStop → Outcome (List Overlay)
  changed_by r name key state None = answered (record (tx_in g) { work = touch g.overlays r key state }) Done
  changed_by r name key state (Some stop) = refused (tx_in g) (refusal_of name key g.room stop)

  -- a change that nothing refuses but want of space in the entry
  abbrev taken : ℕ → ℕ → Option (List Value) → Bool → Option Refusal → Outcome (List Overlay)
  taken r key state short (Some why) = refused (tx_in g) why
  taken r key state short None = unless (tx_in g) (body_refusal short) (answered (record (tx_in g) { work = touch g.overlays r key state }) Done)

  -- the entry takes it
  abbrev is_short : ℕ → ℕ → Option (List Value) → Bool
  is_short r key state = is_body k g.schema g.second (touch g.overlays r key state)

  changed_is : (r key : ℕ) (state : Option (List Value)) (o : Option Refusal) → changed_to k g.schema (tx_in g) r key state o ≡ taken r key state (is_short r key state) o
  changed_is r key state (Some why) = refl
  changed_is r key state None = refl

  insert_cases : (r : ℕ) (name : List ℕ) (row : Record) (old : Option (List Value))
      → taken r row.key (Some row.fields) (is_short r row.key (Some row.fields)) (insert_refusal name row.key g.room old (has_space k (tx_in g) r) (has_room k (tx_in g) r row.key)) ≡ changed_by r name row.key (Some row.fields) (insert_stop_at (working_in g) r row old)
  insert_cases r name row (Some old) = refl
  insert_cases r name row None = by (has_space k (tx_in g) r) (has_room k (tx_in g) r row.key) (is_short r row.key (Some row.fields))
    where
      by : (space free short : Bool) → taken r row.key (Some row.fields) short (insert_refusal name row.key g.room None space free) ≡ changed_by r name row.key (Some row.fields) (cond space (cond free (cond short None (Some BodyFull)) (Some Room)) (Some (TableFull r)))
      by false free short = refl
      by true false short = refl
      by true true false = refl
      by true true true = refl

  pub insert_by : (r : ℕ) (name : List ℕ) (row : Record) → insert_free k g.schema (tx_in g) r name row.key row.fields ≡ changed_by r name row.key (Some row.fields) (insert_stop (working_in g) r row)
  insert_by r name row =
      changed_is r row.key (Some row.fields) (insert_refusal name row.key g.room (fields_at (working_in g) r row.key) (has_space k (tx_in g) r) (has_room k (tx_in g) r row.key))
      ∙ insert_cases r name row (fields_at (working_in g) r row.key)

  change_cases : (r : ℕ) (name : List ℕ) (key : ℕ) (state old : Option (List Value)) → taken r key state (is_short r key state) (change_refusal name key g.room old (has_room k (tx_in g) r key)) ≡ changed_by r name key state (change_stop_at (working_in g) r key state old)
  change_cases r name key state None = refl
  change_cases r name key state (Some old) = by (has_room k (tx_in g) r key) (is_short r key state)
    where
      by : (free short : Bool) → taken r key state short (change_refusal name key g.room (Some old) free) ≡ changed_by r name key state (cond free (cond short None (Some BodyFull)) (Some Room))
      by false short = refl
      by true false = refl
      by true true = refl

  change_by : (r : ℕ) (name : List ℕ) (key : ℕ) (state : Option (List Value)) → changed_to k g.schema (tx_in g) r key state (change_refusal name key g.room (fields_at (working_in g) r key) (has_room k (tx_in g) r key)) ≡ changed_by r name key state (change_stop (working_in g) r key state)
  change_by r name key state =
      changed_is r key state (change_refusal name key g.room (fields_at (working_in g) r key) (has_room k (tx_in g) r key))
      ∙ change_cases r name key state (fields_at (working_in g) r key)

  pub update_by : (r : ℕ) (name : List ℕ) (key : ℕ) (sets : List Set) → update_free k g.schema (tx_in g) r name key sets ≡ changed_by r name key (updated sets (fields_at (working_in g) r key)) (change_stop (working_in g) r key (updated sets (fields_at (working_in g) r key)))
  update_by r name key sets = change_by r name key (updated sets (fields_at (working_in g) r key))

  pub delete_by : (r : ℕ) (name : List ℕ) (key : ℕ) → delete_free k g.schema (tx_in g) r name key ≡ changed_by r name key None (change_stop (working_in g) r key None)
  delete_by r name key = change_by r name key None
