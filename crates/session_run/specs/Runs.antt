-- Sections, their numbers, their jobs, and lists that are interleavings of them.
use Rattle.std.specs.Prelude.{◌≡◌, ◌⊎◌, ℕ, ◌+◌, ◌==◌, Bool, true, false, List, [], ◌∷◌, ◌++◌, cond, Option, Some, None, IfSome}
use Rattle.atomic_table.specs.Seated.{TableId}
use Rattle.db_value.specs.declared.step.Step.{Step}
use Rattle.db_store.specs.State.{State}
use Rattle.stmt_text.specs.declared.sections.Section.{Section}
use Rattle.history_note.specs.Places.{places}
use Rattle.history_note.specs.Shown.{AtNote, AtPen, AtPass, is_carrying, FitsPen}
use Rattle.entry_codec.specs.declared.log.Log.{Ghosts}
use Rattle.db_core.specs.Order.{opening}
use Rattle.db_core.specs.Kept.{Kept, Stands, said_step}
use Rattle.db_core.specs.Heard.{Marked, marked_steps}
use Rattle.db_core.specs.Accounts.{StoresGroups}
use Rattle.db_hub.specs.Entered.{is_open_after}
use Rattle.db_hub.specs.Seats.{AtSeat}
use Rattle.session_run.specs.declared.run.Unfinished.{Unfinished}
use Rattle.session_run.specs.declared.run.Unfinished.TheVariants.{Memory, PassLost}
use Rattle.session_run.specs.Said.{IsFirstOf, texts, texts_in, abort_text, IsReady, SaysAll, SaysPart}

-- ---- lists

-- the step, if its line is of the session
abbrev pub own_if : ℕ → Step → List Step
own_if session s = cond ((said_step s).session == session) (s ∷ []) []

-- the steps of the session's lines, in order
abbrev pub own_steps : ℕ → List Step → List Step
own_steps session [] = []
own_steps session (s ∷ ss) = own_if session s ++ own_steps session ss

-- a session has a section
abbrev pub HasSection : List Section → ℕ → Type 0
HasSection [] session = ⊥
HasSection (s ∷ ss) session = (s.session ≡ session) ⊎ HasSection ss session

-- each line is of a session that has a section
abbrev pub AllHaveSections : List Section → List Step → Type 0
AllHaveSections sections [] = Unit {0}
AllHaveSections sections (s ∷ ss) = HasSection sections (said_step s).session × AllHaveSections sections ss

-- The session's lines are these texts and then an abort, the last of them. Just before it the session has an open transaction.
pub record IsAborted (o : State) (section : List (List ℕ)) (session : ℕ) (steps : List Step) : Type 0 where
  pub front : List Step
  pub step : Step
  pub rest : List Step
  pub split : steps ≡ front ++ step ∷ rest
  pub abort : step.line ≡ abort_text session
  pub section_is : texts (own_steps session front) ≡ section
  pub left_open : is_open_after o front session ≡ true
  pub last : own_steps session rest ≡ []

-- The session's lines are its section, and an abort after it if the section leaves a transaction open in this list. Without the abort, and with it, none is open in the end.
abbrev pub IsWhole : State → Section → List Step → Type 0
IsWhole o section steps =
    (is_open_after o steps section.session ≡ false)
    × ((texts (own_steps section.session steps) ≡ texts_in section.lines) ⊎ IsAborted o (texts_in section.lines) section.session steps)

-- the session's lines are a beginning of its section, or all of it and then the abort
abbrev pub IsBegun : State → Section → List Step → Type 0
IsBegun o section steps =
    IsFirstOf (texts (own_steps section.session steps)) (texts_in section.lines)
    ⊎ IsAborted o (texts_in section.lines) section.session steps

-- the list has each section whole
abbrev pub AllWhole : State → List Section → List Step → Type 0
AllWhole o [] steps = Unit {0}
AllWhole o (s ∷ ss) steps = IsWhole o s steps × AllWhole o ss steps

-- the list has a beginning of each section
abbrev pub AllBegun : State → List Section → List Step → Type 0
AllBegun o [] steps = Unit {0}
AllBegun o (s ∷ ss) steps = IsBegun o s steps × AllBegun o ss steps

-- these lines, on this state, are an interleaving of the sections
abbrev pub IsInterleaving : State → List Section → List Step → Type 0
IsInterleaving o sections steps = AllHaveSections sections steps × AllWhole o sections steps

-- these lines are of the sections, and unless a pass was lost they have a beginning of each
abbrev pub IsBeginning : Unfinished → State → List Section → List Step → Type 0
IsBeginning Memory o sections steps = AllHaveSections sections steps × AllBegun o sections steps
IsBeginning PassLost o sections steps = AllHaveSections sections steps

-- ---- boards

-- nothing was run on the board
abbrev pub IsNew : Kept → Type 0
IsNew b = Stands b × (b.steps ≡ [])

-- what sections leave of a board: its opening state and the count of its log at the beginning; and its list has the replies of whole transactions
pub record HasRun (old new : Kept) : Type 0 where
  pub opening : new.opening ≡ old.opening
  pub first_count : new.first_count ≡ old.first_count
  pub stands : Stands new

-- how sections end: all whole, or some begun
abbrev pub EndsWith : Option Unfinished → State → List Section → List Step → Type 0
EndsWith None o sections steps = IsInterleaving o sections steps
EndsWith (Some why) o sections steps = IsBeginning why o sections steps

-- Sections were run on this state, and left this log and these steps: an interleaving of the sections, or beginnings of them. Each step has the reply of its whole transaction, and since the
-- first log the log did for the steps' lines what a log does.
pub record Ends {L S V P Q : Type 0} (g : Ghosts L S V P Q) (o : State) (first : L) (sections : List Section) (why : Option Unfinished) (last : L) (steps : List Step) : Type 0 where
  pub list : EndsWith why o sections steps
  pub kept : Kept
  pub stands : Stands kept
  pub opening_is : kept.opening ≡ o
  pub steps_are : kept.steps ≡ steps
  pub stores : (groups : List (List Marked)) × StoresGroups g (opening o) (marked_steps steps) groups first last

-- ---- numbers and jobs

-- the sections' numbers, from k on, each with its session
abbrev pub numbers_of : ℕ → List Section → List (ℕ × ℕ)
numbers_of k [] = []
numbers_of k (s ∷ ss) = (k, s.session) ∷ numbers_of (k + 1) ss

-- what a tag names of the run of these sections: the note, the board's opening state and count, and the sections' numbers, none of which has a line when its seat is given. All seats stay out.
pub record IsNamed (note : TableId) (opened : State) (first : ℕ) (numbers : List (ℕ × ℕ)) (since : ℕ → ℕ) (stays : Bool) (n : AtNote) (b : Kept) (sections : List Section) : Type 0 where
  pub note_is : n.note ≡ note
  pub opening_is : b.opening ≡ opened
  pub first_is : b.first_count ≡ first
  pub numbers_are : numbers ≡ numbers_of 0 sections
  pub since_none : (k : ℕ) → since k ≡ 0
  pub all_stay : stays ≡ true

-- a job: its section, its seat, its last pass, and whether the section was said to the end
pub record AtJob : Type 0 where
  pub section : Option Section
  pub seat : Option AtSeat
  pub last : Option AtPass
  pub whole : Bool

-- it has the section, and the seat of number k, ready for it
pub record JobReady (k : ℕ) (section : Section) (job : AtJob) : Type 0 where
  pub section_is : job.section ≡ Some section
  pub seat : AtSeat
  pub seat_is : job.seat ≡ Some seat
  pub number_is : seat.number ≡ k
  pub ready : IsReady section seat

-- a last pass with the number k tells how much of the section was said
pub record PassRan (note : TableId) (o : State) (k : ℕ) (section : Section) (whole : Bool) (p : AtPass) : Type 0 where
  pub note_is : p.note ≡ note
  pub number_is : p.number ≡ k
  pub session_is : p.session ≡ section.session
  pub mine_is : p.mine ≡ places k p.seen
  pub left_none : p.left ≡ None
  pub part : SaysPart o k (texts_in section.lines) section.session p.seen
  pub all : whole ≡ true → SaysAll o k (texts_in section.lines) section.session p.seen

-- it was run: its last pass, if that wasn't lost, tells how much of the section was said
abbrev pub JobRan : TableId → State → ℕ → Section → AtJob → Type 0
JobRan note o k section job = IfSome job.last (PassRan note o k section job.whole)

-- a job may be run: it is ready for a section
abbrev pub IsReadyJob : AtJob → Type 0
IsReadyJob job = (k : ℕ) × (s : Section) × JobReady k s job

-- it was run, whatever section it was ready for
abbrev pub RunsJob : TableId → State → AtJob → AtJob → Type 0
RunsJob note o old new = (k : ℕ) (s : Section) → JobReady k s old → JobRan note o k s new

-- each section has a job that is ready for it, from number k on
abbrev pub AreReady : ℕ → List Section → List AtJob → Type 0
AreReady k [] [] = Unit {0}
AreReady k [] (j ∷ js) = ⊥
AreReady k (s ∷ ss) [] = ⊥
AreReady k (s ∷ ss) (j ∷ js) = JobReady k s j × AreReady (k + 1) ss js

-- jobs are ready, each for a section
pub record HaveSections (jobs : List AtJob) : Type 0 where
  pub sections : List Section
  pub ready : AreReady 0 sections jobs

-- each section has a job that was run, from number k on
abbrev pub AreRun : TableId → State → ℕ → List Section → List AtJob → Type 0
AreRun note o k [] [] = Unit {0}
AreRun note o k [] (j ∷ js) = ⊥
AreRun note o k (s ∷ ss) [] = ⊥
AreRun note o k (s ∷ ss) (j ∷ js) = JobRan note o k s j × AreRun note o (k + 1) ss js

-- each last pass is of the note, and left no line
abbrev pub AreOf : TableId → List AtJob → Type 0
AreOf note [] = Unit {0}
AreOf note (j ∷ js) = IfSome j.last (λ p. (p.note ≡ note) × (p.left ≡ None)) × AreOf note js

-- the last pass of each job is there, and fits the pen's list
abbrev pub AreTied : AtPen → List AtJob → Type 0
AreTied pen [] = Unit {0}
AreTied pen (j ∷ js) = ((p : AtPass) × (j.last ≡ Some p) × FitsPen pen p) × AreTied pen js

-- each section was said to its end
abbrev pub AreWhole : List AtJob → Type 0
AreWhole [] = Unit {0}
AreWhole (j ∷ js) = (j.whole ≡ true) × AreWhole js

-- a job came back without its pass
abbrev pub MissesPass : List AtJob → Type 0
MissesPass [] = ⊥
MissesPass (j ∷ js) = (j.last ≡ None) ⊎ MissesPass js

-- a pass was lost: the pen still carries one, or a job came back without its own
abbrev pub IsLost : AtPen → List AtJob → Type 0
IsLost pen jobs = (is_carrying pen ≡ true) ⊎ MissesPass jobs

-- unless a pass was lost, all are tied
abbrev pub AreTiedIf : AtPen → List AtJob → Unfinished → Type 0
AreTiedIf pen jobs Memory = AreTied pen jobs
AreTiedIf pen jobs PassLost = Unit {0}
