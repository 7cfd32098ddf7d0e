-- Laws of one transaction alone.
use Rattle.std.specs.Prelude.{◌≡◌, ℕ, ◌<◌, ◌≤◌, true, List, [], ◌∷◌, length, map, Some, None}
use Rattle.std.specs.FinMap as finite
use Rattle.db_value.specs.declared.entry.Entry.{Entry}
use Rattle.db_store.specs.Table.{Table, with_changes}
use Rattle.db_store.specs.Overlay.{Overlay, laid, untouched}
use Rattle.db_store.specs.Body.{IsShort}
use Rattle.db_store.specs.RowWidths.{all_widths}
use Rattle.db_store.specs.Dataset.{Dataset, head_of}
use Rattle.db_store.specs.Fits.{fits}
use Rattle.db_store.specs.Sound.{IsSound}
use Rattle.db_store.specs.Counted.{IsCounted}
use Rattle.stmt_text.specs.declared.stmt.Stmt.{Stmt}
use Rattle.stmt_text.specs.declared.stmt.Stmt.TheVariants.{Begin}
use Rattle.branch_tx.specs.Keeping.{Private, privately, over_table}
use Rattle.branch_tx.specs.Act.{Tx}
use Rattle.branch_tx.specs.Alone.{alone, overlaid, reply_alone, reply_after, entry_of}

-- the touched keys of a relation, ascending
abbrev pub keys_of : Overlay → List ℕ
keys_of o = map (λ e. e.0) (finite.entries o)

-- the private table that changes make of a table
abbrev pub private_of : Table → List Overlay → Private
private_of t os = record { table = laid t os; touched = map keys_of os }

-- the same transaction with a whole working table in place of overlays
abbrev pub as_private : Table → Tx (List Overlay) → Tx Private
as_private t tx = record { begun = tx.begun; room = tx.room; work = private_of t tx.work; second = tx.second; made = tx.made; moved = tx.moved }

-- a whole private table and changes over the head give the same replies and the same entry, and the one is made of the other
abbrev pub PrivateLaw : Type 0
PrivateLaw = (d : Dataset) (b : ℕ) (xs : List Stmt) → IsCounted d → IsSound d → b < length d.branches
    → (alone d b xs ≡ as_private (head_of d b) (overlaid d b xs))
    × ((x : Stmt) → reply_alone d b xs x ≡ reply_after (over_table (head_of d b)) untouched d b xs x)
    × (entry_of privately d.schema b (alone d b xs) ≡ entry_of (over_table (head_of d b)) d.schema b (overlaid d b xs))

-- the changes of a transaction make its private table of the head
abbrev pub TableLaw : Type 0
TableLaw = (d : Dataset) (b : ℕ) (xs : List Stmt) → IsCounted d → IsSound d → b < length d.branches
    → with_changes (head_of d b) (privately.changes (all_widths d.schema) (alone d b xs).work) ≡ (alone d b xs).work.table

-- a `begin` has room for at most 65,536 keys
abbrev pub IsRoomy : Stmt → Type 0
IsRoomy (Begin None) = Unit {0}
IsRoomy (Begin (Some n)) = n ≤ 65536
IsRoomy _ = Unit {0}

-- each statement that begins a transaction asks for a room that there is
abbrev pub AllRoomy : List Stmt → Type 0
AllRoomy [] = Unit {0}
AllRoomy (x ∷ xs) = IsRoomy x × AllRoomy xs

-- the entry of a transaction fits the dataset on which it ran
abbrev pub EntryLaw : Type 0
EntryLaw = (d : Dataset) (b : ℕ) (xs : List Stmt) (e : Entry) → IsSound d → IsCounted d → b < length d.branches → AllRoomy xs
    → entry_of (over_table (head_of d b)) d.schema b (overlaid d b xs) ≡ Some e → fits d e ≡ true

-- the entry of a transaction isn't too large
abbrev pub ShortLaw : Type 0
ShortLaw = (d : Dataset) (b : ℕ) (xs : List Stmt) (e : Entry) → IsSound d → IsCounted d → b < length d.branches → AllRoomy xs
    → entry_of (over_table (head_of d b)) d.schema b (overlaid d b xs) ≡ Some e → IsShort e
