-- What each step makes of what the pen and a pass know.
use Rattle.std.specs.Prelude.{ℕ, ◌==◌, List, [], ◌∷◌, ◌++◌, length, cond, take, drop, Option, Some, None}
use Rattle.db_value.specs.declared.step.Step.{Step}
use Rattle.history_note.specs.declared.view.NotedLine.{NotedLine}
use Rattle.history_note.specs.declared.view.PassView.{PassView}
use Rattle.history_note.specs.declared.view.PenView.{PenView}
use Rattle.history_note.specs.declared.view.View.{View}
use Rattle.history_note.specs.declared.view.View.TheVariants.{Spent, OfPen, OfPass}
use Rattle.history_note.specs.Places.{places, owed_to, without, kept_for, kept_without}

-- a line with its number
abbrev pub noted_line : ℕ → Step → NotedLine
noted_line n s = record { number = n; step = s }

module _ {St : Type 0} where
  -- all places of the carried pass's lines: what it had seen, what it was owed, and what was written since it was taken in
  abbrev pub completed : PassView St → List (ℕ × ℕ) → List ℕ
  completed c owed =
      take (length (places c.number c.seen)) c.mine ++ (owed_to c.number owed ++ drop (length (places c.number c.seen)) c.mine)

  -- the carried pass after a line with the number n is put at the place p
  abbrev pub carried_after : ℕ → ℕ → Option (PassView St) → Option (PassView St)
  carried_after n p None = None
  carried_after n p (Some c) = Some (record c { mine = cond (n == c.number) (c.mine ++ p ∷ []) c.mine })

  -- what is owed then: the place too, unless the carried pass has the number
  abbrev pub owed_after : ℕ → ℕ → Option (PassView St) → List (ℕ × ℕ) → List (ℕ × ℕ)
  owed_after n p None owed = owed ++ (n, p) ∷ []
  owed_after n p (Some c) owed = cond (n == c.number) owed (owed ++ (n, p) ∷ [])

  -- the pen of a new note
  abbrev pub first_pen : St → PenView St
  first_pen o =
      record { opening = o; noted = []; lines = []; owed = []; kept = []; carried = None; kept_then = None; said_number = 0; said_session = 0 }

  -- the pen says a number
  abbrev pub says_number : ℕ → PenView St → PenView St
  says_number n p = record p { said_number = n }

  -- the pen says a session
  abbrev pub says_session : ℕ → PenView St → PenView St
  says_session s p = record p { said_session = s }

  -- the pen says both
  abbrev pub says : ℕ → ℕ → PenView St → PenView St
  says n s p = says_session s (says_number n p)

  -- the pen notes what it said
  abbrev pub notes : PenView St → PenView St
  notes p = record p { noted = p.noted ++ (p.said_number, p.said_session) ∷ [] }

  -- the pass that is issued for what was said
  abbrev pub issued : PenView St → PassView St
  issued p =
      record { opening = p.opening; number = p.said_number; session = p.said_session; seen = p.lines; mine = []; left = None }

  -- the pen writes a line with the number that it said
  abbrev pub writes : Step → PenView St → PenView St
  writes s p = record p {
    lines = p.lines ++ noted_line p.said_number s ∷ [];
    owed = owed_after p.said_number (length p.lines) p.carried p.owed;
    kept = kept_without p.said_number p.kept;
    carried = carried_after p.said_number (length p.lines) p.carried;
  }

  -- the pen keeps a line for the number of the pass that it carries
  abbrev pub leaves_by : Option (PassView St) → List ℕ → PenView St → PenView St
  leaves_by None t p = p
  leaves_by (Some c) t p = record p { kept = p.kept ++ (c.number, t) ∷ [] }

  abbrev pub leaves : List ℕ → PenView St → PenView St
  leaves t p = leaves_by p.carried t p

  -- the pen takes a pass in, and notes which line it keeps for it then
  abbrev pub takes : PassView St → PenView St → PenView St
  takes q p = record p { carried = Some q; kept_then = kept_for q.number p.kept }

  -- the pen lets go of the pass that it carried
  abbrev pub lets_go : PassView St → PenView St → PenView St
  lets_go c p = record p { carried = None; owed = without c.number p.owed }

  -- the pass that is handed out
  abbrev pub handed : PassView St → PenView St → PassView St
  handed c p =
      record { opening = p.opening; number = c.number; session = c.session; seen = p.lines; mine = completed c p.owed; left = kept_for c.number p.kept }

  -- the cuts and the joining, at any view
  abbrev pub noting_view : View St → View St
  noting_view (OfPen p) = OfPen (notes p)
  noting_view Spent = Spent
  noting_view (OfPass q) = OfPass q

  abbrev pub issued_view : View St → View St
  issued_view (OfPen p) = OfPass (issued p)
  issued_view Spent = Spent
  issued_view (OfPass q) = Spent

  abbrev pub handing_by : Option (PassView St) → PenView St → PenView St
  handing_by None p = p
  handing_by (Some c) p = lets_go c p

  abbrev pub handed_by : Option (PassView St) → PenView St → View St
  handed_by None p = Spent
  handed_by (Some c) p = OfPass (handed c p)

  abbrev pub handing_view : View St → View St
  handing_view (OfPen p) = OfPen (handing_by p.carried p)
  handing_view Spent = Spent
  handing_view (OfPass q) = OfPass q

  abbrev pub handed_view : View St → View St
  handed_view (OfPen p) = handed_by p.carried p
  handed_view Spent = Spent
  handed_view (OfPass q) = Spent

  abbrev pub taking_view : View St → View St → View St
  taking_view (OfPen p) (OfPass q) = OfPen (takes q p)
  taking_view v w = v
