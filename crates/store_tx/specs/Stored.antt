-- What a log does for a line.
use Rattle.std.specs.Prelude.{◌≡◌, ◌⊎◌, ◌≤◌, ◌∷◌, ◌++◌, [], ℕ, cond, Bool, true, false, List, Option, Some, None}
use Rattle.db_value.specs.declared.entry.Entry.{Entry}
use Rattle.db_value.specs.declared.entry.Entry.TheVariants.{Commit as CommitEntry, Branch as BranchEntry}
use Rattle.db_value.specs.declared.reply.Reply.{Reply}
use Rattle.db_value.specs.declared.reply.Reply.TheVariants.{Refused}
use Rattle.db_value.specs.declared.reply.Refusal.TheVariants.{FaultDisk}
use Rattle.db_store.specs.Dataset.{Dataset}
use Rattle.db_store.specs.Fits.{fits}
use Rattle.db_store.specs.State.{State, grow}
use Rattle.db_outside.specs.Device.{Rose}
use Rattle.stmt_text.specs.declared.stmt.Stmt.{Stmt}
use Rattle.stmt_text.specs.declared.stmt.Stmt.TheVariants.{Branch, Checkpoint}
use Rattle.entry_codec.specs.declared.log.Log.{Ghosts}
use Rattle.entry_codec.specs.Spelling.{spellings}
use Rattle.entry_codec.specs.Laws.{IsNamed}
use Rattle.entry_codec.specs.Logs.{Opening, MayGive, GivesOneOf, GivesImage, IsNoLater, AddsOnly, KeepsOrOwes, next_generation, entries_after}
use Rattle.store_tx.specs.declared.stored.LogCall.{LogCall}
use Rattle.store_tx.specs.declared.stored.LogCall.TheVariants.{Nothing, Append, Save}

-- ---- what a line asks of the log

-- the call that stores an entry, if there is one
abbrev pub call_if : Option Entry → LogCall
call_if None = Nothing
call_if (Some e) = Append e

-- whether a statement asks for an image of the state
abbrev pub is_checkpoint : Stmt → Bool
is_checkpoint Checkpoint = true
is_checkpoint _ = false

-- the call of a statement whose transaction ends with this entry, if it has one
abbrev pub call_of : Stmt → Option Entry → LogCall
call_of x (Some e) = Append e
call_of x None = cond (is_checkpoint x) Save Nothing

-- What is asked of a log: nothing, or to store entries as one batch, or to write an image of the state.
pub data Asked : Type 0 where
  nothing : Asked
  batch : List Entry → Asked
  image : Asked

-- what a call asks: an entry is a batch of its own
abbrev pub asked : LogCall → Asked
asked Nothing = nothing
asked (Append e) = batch (e ∷ [])
asked Save = image

-- whether something is asked
abbrev pub is_asked : Asked → Bool
is_asked nothing = false
is_asked (batch es) = true
is_asked image = true

-- whether an image is asked for
abbrev pub is_image : Asked → Bool
is_image nothing = false
is_image (batch es) = false
is_image image = true

-- whether the log is called
abbrev pub is_call : LogCall → Bool
is_call call = is_asked (asked call)

-- whether a call asks for an image
abbrev pub is_save : LogCall → Bool
is_save call = is_image (asked call)

-- the entry that is to be stored
abbrev pub entry_called : LogCall → Option Entry
entry_called Nothing = None
entry_called (Append e) = Some e
entry_called Save = None

-- the entry, if there is one, fits
abbrev pub FitsIf : Dataset → Option Entry → Type 0
FitsIf d None = Unit {0}
FitsIf d (Some e) = fits d e ≡ true

-- the entry, if there is one, names a new branch by a name
abbrev pub IsNamedIf : Option Entry → Type 0
IsNamedIf None = Unit {0}
IsNamedIf (Some e) = IsNamed e

-- the reply to a line, if the log did what it asked for or failed
abbrev pub told_if : Bool → Reply → Reply
told_if true r = Refused FaultDisk
told_if false r = r

-- the entry that was stored
abbrev pub stored_if : Bool → Option Entry → Option Entry
stored_if true entry = None
stored_if false entry = entry

-- whether a statement makes a branch
abbrev pub is_branch : Stmt → Bool
is_branch (Branch name origin) = true
is_branch _ = false

-- A store can install as many prepared commits as before, or more. Where a new branch is added, that isn't told.
abbrev pub SparesIf : Option Entry → (old new : ℕ) → Type 0
SparesIf None old new = old ≤ new
SparesIf (Some (CommitEntry branch second changes)) old new = old ≤ new
SparesIf (Some (BranchEntry name origin)) old new = Unit {0}

-- ---- what the log does

-- The log has this state. Where it may owe an image, its last checkpoint may have failed when it opened that.
abbrev pub Has : {L S V P Q : Type 0} → Ghosts L S V P Q → (owing : Bool) → L → State → List Entry → Option (List ℕ) → Type 0
Has g false log s es f = g.Keeps log s es f
Has g true log s es f = KeepsOrOwes g.Keeps g.Owes log s es f

-- the state after entries, one after another
abbrev pub all_grown : State → List Entry → State
all_grown s [] = s
all_grown s (e ∷ es) = all_grown (grow s e) es

-- whether it may owe an image after this was asked
abbrev pub owing_after : (failed : Bool) → Asked → Bool → Bool
owing_after failed nothing owing = owing
owing_after true (batch es) owing = owing
owing_after false (batch es) owing = false
owing_after failed image owing = failed

-- its generation then
abbrev pub generation_after : (failed : Bool) → Asked → ℕ → ℕ
generation_after failed nothing n = n
generation_after failed (batch es) n = n
generation_after true image n = n
generation_after false image n = next_generation n

-- what opening may give while this is asked: what was there, or that and the pending batch, or that and the new one, or the image
abbrev pub GivesIn : ℕ → State → List Entry → Option (List ℕ) → Asked → Opening → Type 0
GivesIn n s es f nothing o = MayGive n s es f o
GivesIn n s es f (batch new) o = GivesOneOf n s es f (spellings new) o
GivesIn n s es f image o = MayGive n s es f o ⊎ GivesImage n s o

-- an image that it may owe is given
abbrev pub GivesOwed : (owing : Bool) → ℕ → State → Opening → Type 0
GivesOwed false n s o = ⊥
GivesOwed true n s o = GivesImage n s o

-- what the log has where it did what was asked
abbrev pub HasDone : {L S V P Q : Type 0} → Ghosts L S V P Q → (owing : Bool) → L → ℕ → State → List Entry → Option (List ℕ) → Asked → Type 0
HasDone g owing log n s es f nothing = Has g owing log s es f
HasDone g owing log n s es f (batch new) = g.Keeps log (all_grown s new) (es ++ new) None
HasDone g owing log n s es f image = g.Keeps log s (entries_after n es) None

-- nothing is pending, or what was, or the batch that failed
abbrev pub IsPendingOf : Option (List ℕ) → Asked → Option (List ℕ) → Type 0
IsPendingOf f (batch new) h = (h ≡ None) ⊎ (h ≡ f) ⊎ (h ≡ Some (spellings new))
IsPendingOf f ask h = (h ≡ None) ⊎ (h ≡ f)

-- what the log has then, where it may have failed: a crash may show the batch, or what it might have shown before, or neither; or the image
abbrev pub HasAfter : {L S V P Q : Type 0} → Ghosts L S V P Q → (owing failed : Bool) → L → ℕ → State → List Entry → Option (List ℕ) → Asked → Type 0
HasAfter g owing false log n s es f ask = HasDone g owing log n s es f ask
HasAfter g owing true log n s es f ask = (h : Option (List ℕ)) × IsPendingOf f ask h × Has g (owing_after true ask owing) log s es h

-- What a log does that is asked for this on this state: it fails at most where something is asked for, and only if its count rose. What a crash at any moment of it leaves is told, and
-- so is what the log has then. It isn't called where nothing is asked for. Only an image isn't quiet.
pub record StoresAsked {L S V P Q : Type 0} (g : Ghosts L S V P Q) (s : State) (failed : Bool) (ask : Asked) (old new : L) : Type 0 where
  pub some : failed ≡ true → is_asked ask ≡ true
  pub spared : ask ≡ nothing → new ≡ old
  pub cause : failed ≡ true → Rose (g.faults old) (g.faults new)
  pub any_moment : (owing : Bool) (es : List Entry) (f : Option (List ℕ)) → Has g owing old s es f → (o : Opening) → g.opens_since new (g.moment old) o → GivesIn (g.generation old) s es f ask o ⊎ GivesOwed owing (g.generation old) s o
  pub quiet : is_image ask ≡ false → (es : List Entry) (f : Option (List ℕ)) → g.Keeps old s es f → AddsOnly g.moment g.Quiet g.opens_since old new (GivesIn (g.generation old) s es f ask)
  pub has : (owing : Bool) (es : List Entry) (f : Option (List ℕ)) → Has g owing old s es f → HasAfter g owing failed new (g.generation old) s es f ask
  pub generation : g.generation new ≡ generation_after failed ask (g.generation old)
  pub time : IsNoLater (g.moment old) (g.moment new)
  pub later : g.faults old ≤ g.faults new
  pub each : IsNoLater (g.counts old) (g.counts new)

-- what a log does for a line that asks for this
abbrev pub Stores : {L S V P Q : Type 0} → Ghosts L S V P Q → (s : State) → (failed : Bool) → (call : LogCall) → (old new : L) → Type 0
Stores g s failed call old new = StoresAsked g s failed (asked call) old new
