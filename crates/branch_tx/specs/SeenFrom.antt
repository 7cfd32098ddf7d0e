-- Where what a transaction sees comes from: its working table, and the views that it was lent.
use Rattle.std.specs.Prelude.{◌≡◌, ◌≢◌, ◌<◌, ℕ, List, length}
use Rattle.std.specs.List.{All}
use Rattle.db_store.specs.declared.view.View.{Ghosts}
use Rattle.db_store.specs.declared.seen.Seen.{Seen}
use Rattle.db_store.specs.declared.seen.Seen.TheVariants.{Kept, Own}
use Rattle.db_store.specs.declared.work.Work.{Work}
use Rattle.db_store.specs.Parts.{Part, part_at}
use Rattle.db_store.specs.WorkParts.{own_id}
use Rattle.db_store.specs.WorkState.{under_of, overlays_of}
use Rattle.branch_tx.specs.Shown.{parts_by, IsAmong}
use Rattle.branch_tx.specs.Granted.{Granted}

-- the working table of a transaction
pub record IsWorkOf {V : Type 0} {g : Ghosts V} (t : Granted) (w : Work V g) : Type 0 where
  pub head : g.table (under_of w) ≡ t.head
  pub below : parts_by (g.parts_of (under_of w)) ≡ t.below
  pub overlays : overlays_of w ≡ t.overlays
  pub wide : length t.head ≡ length t.schema

-- it is this working table, or a view that was lent
abbrev pub IsFrom : {V : Type 0} {g : Ghosts V} → Granted → Work V g → Seen V g → Type 0
IsFrom {V} {g} t w (Kept view) = IsAmong t.shown (parts_by (g.parts_of view.now))
IsFrom {V} {g} t w (Own work) = work.now ≡ w

-- all are of one working table and of views that were lent
abbrev pub AreFrom : {V : Type 0} {g : Ghosts V} → Granted → List (Seen V g) → Type 0
AreFrom {V} {g} t views = (w : Work V g) × IsWorkOf t w × All (IsFrom t w) views

-- the parts of a view that was lent, or of the view below the working table
abbrev pub parts_below : {V : Type 0} {g : Ghosts V} → Seen V g → ℕ → List Part
parts_below {V} {g} (Kept view) r = g.parts_of view.now r
parts_below {V} {g} (Own work) r = g.parts_of (under_of work.now) r

-- none of so many parts has the id of a working table's own part
abbrev pub LackOwnId : List Part → ℕ → Type 0
LackOwnId parts count = (i : ℕ) → i < count → (part_at parts i).id ≢ own_id

-- none of the parts below has it
abbrev pub IsApart : {V : Type 0} {g : Ghosts V} → Seen V g → ℕ → Type 0
IsApart s r = LackOwnId (parts_below s r) (length (parts_below s r))
