-- A note, a pen and a pass as their callers see them, and what each call makes of them.
use Rattle.std.specs.Prelude.{◌≡◌, ℕ, Bool, List, [], ◌∷◌, ◌++◌, length, Option, Some, None, is_some}
use Rattle.atomic_table.specs.Seated.{TableId}
use Rattle.db_value.specs.declared.step.Step.{Step}
use Rattle.db_store.specs.State.{State, whole}
use Rattle.history_note.specs.declared.view.NotedLine.{NotedLine}
use Rattle.history_note.specs.declared.view.PassView.{PassView}
use Rattle.history_note.specs.declared.view.View.{View}
use Rattle.history_note.specs.declared.view.View.TheVariants.{Spent, OfPen, OfPass}
use Rattle.history_note.specs.Places.{without, kept_for, kept_without}
use Rattle.history_note.specs.Views.{completed, noted_line, owed_after, carried_after}
use Rattle.history_note.specs.Rule.{Fits, PenFacts, IsNext}

-- which note it is, and the state that it was made with
pub record AtNote : Type 0 where
  pub note : TableId
  pub opening : State

-- whose pen it is, and with which opening; the numbers that it noted, each with its session; the list; the places that it owes to numbers; the lines that it keeps for numbers;
-- the pass that it carries
pub record AtPen : Type 0 where
  pub note : TableId
  pub opening : State
  pub noted : List (ℕ × ℕ)
  pub lines : List NotedLine
  pub owed : List (ℕ × ℕ)
  pub kept : List (ℕ × List ℕ)
  pub carried : Option (PassView State)

-- whose pass it is, and with which opening; its number, and the session for which it was issued; the lines that it has seen, and the places of its own among them; the line that it left
pub record AtPass : Type 0 where
  pub note : TableId
  pub opening : State
  pub number : ℕ
  pub session : ℕ
  pub seen : List NotedLine
  pub mine : List ℕ
  pub left : Option (List ℕ)

-- what the pen knows of a pass that it takes in
abbrev pub known : AtPass → PassView State
known q = record { opening = q.opening; number = q.number; session = q.session; seen = q.seen; mine = q.mine; left = q.left }

-- the pen carries a pass
abbrev pub is_carrying : AtPen → Bool
is_carrying p = is_some p.carried

-- the line that the pen keeps for the number of the pass that it carries, if it carries one
abbrev pub carried_line_of : Option (PassView State) → AtPen → Option (List ℕ)
carried_line_of None p = None
carried_line_of (Some c) p = kept_for c.number p.kept

abbrev pub carried_line : AtPen → Option (List ℕ)
carried_line p = carried_line_of p.carried p

-- what holds of every pen, with the line that it kept for the pass that it carries when it took this in
abbrev pub IsPenAt : AtPen → Type 0
IsPenAt p = (kept_then : Option (List ℕ)) × PenFacts p.opening p.noted p.lines p.owed p.kept kept_then p.carried

-- what holds of every pass that is out, against its pen
abbrev pub FitsPen : AtPen → AtPass → Type 0
FitsPen p q = Fits p.opening p.noted p.lines p.owed p.kept (known q)

-- a new note's pen
abbrev pub new_pen : AtNote → AtPen
new_pen n = record { note = n.note; opening = n.opening; noted = []; lines = []; owed = []; kept = []; carried = None }

-- the pen after it issued a pass, and that pass
abbrev pub noting : ℕ → ℕ → AtPen → AtPen
noting n s p = record p { noted = p.noted ++ (n, s) ∷ [] }

abbrev pub issued_pass : ℕ → ℕ → AtPen → AtPass
issued_pass n s p =
    record { note = p.note; opening = p.opening; number = n; session = s; seen = p.lines; mine = []; left = None }

-- the pen after it took a pass in
abbrev pub carrying : AtPass → AtPen → AtPen
carrying q p = record p { carried = Some (known q) }

-- a line with a number may be written: it is the one that is kept for the number, or the number is the carried pass's and none is kept for it
abbrev pub MayEnter : ℕ → List ℕ → AtPen → Type 0
MayEnter n t p = IsNext p.kept p.carried n t

-- the pen after it wrote a line with a number
abbrev pub writing : ℕ → Step → AtPen → AtPen
writing n s p = record p {
  lines = p.lines ++ noted_line n s ∷ [];
  owed = owed_after n (length p.lines) p.carried p.owed;
  kept = kept_without n p.kept;
  carried = carried_after n (length p.lines) p.carried;
}

-- the pen after a line was left with it
abbrev pub leaving_by : Option (PassView State) → List ℕ → AtPen → AtPen
leaving_by None t p = p
leaving_by (Some c) t p = record p { kept = p.kept ++ (c.number, t) ∷ [] }

abbrev pub leaving : List ℕ → AtPen → AtPen
leaving t p = leaving_by p.carried t p

-- the pen after it handed out the pass that it carried, which it then owes nothing, and that pass
abbrev pub handing_one : Option (PassView State) → AtPen → AtPen
handing_one None p = p
handing_one (Some c) p = record p { owed = without c.number p.owed; carried = None }

abbrev pub handing : AtPen → AtPen
handing p = handing_one p.carried p

abbrev pub handed_pass : PassView State → AtPen → AtPass
handed_pass c p =
    record { note = p.note; opening = p.opening; number = c.number; session = c.session; seen = p.lines; mine = completed c p.owed; left = kept_for c.number p.kept }

-- this is the pass that the pen handed out
abbrev pub IsHanded : AtPen → AtPass → Type 0
IsHanded p q = (c : PassView State) → p.carried ≡ Some c → q ≡ handed_pass c p

-- no state that anything depends on
abbrev pub nothing : State
nothing = whole (record { schema = []; branches = []; order = [] })

module _ {St : Type 0} where
  -- what is seen of a pass, if a store has the state that f tells
  abbrev pub shown_pass : (St → State) → PassView St → PassView State
  shown_pass f q = record { opening = f q.opening; number = q.number; session = q.session; seen = q.seen; mine = q.mine; left = q.left }

  abbrev pub shown_carried : (St → State) → Option (PassView St) → Option (PassView State)
  shown_carried f None = None
  shown_carried f (Some q) = Some (shown_pass f q)

  -- what is seen of a seat that is a pen's
  abbrev pub pen_at : (St → State) → TableId → View St → AtPen
  pen_at f z (OfPen p) =
      record { note = z; opening = f p.opening; noted = p.noted; lines = p.lines; owed = p.owed; kept = p.kept; carried = shown_carried f p.carried }
  pen_at f z Spent = record { note = z; opening = nothing; noted = []; lines = []; owed = []; kept = []; carried = None }
  pen_at f z (OfPass q) = record { note = z; opening = nothing; noted = []; lines = []; owed = []; kept = []; carried = None }

  -- what is seen of a seat that is a pass's
  abbrev pub pass_at : (St → State) → TableId → View St → AtPass
  pass_at f z (OfPass q) =
      record { note = z; opening = f q.opening; number = q.number; session = q.session; seen = q.seen; mine = q.mine; left = q.left }
  pass_at f z Spent = record { note = z; opening = nothing; number = 0; session = 0; seen = []; mine = []; left = None }
  pass_at f z (OfPen p) = record { note = z; opening = nothing; number = 0; session = 0; seen = []; mine = []; left = None }
