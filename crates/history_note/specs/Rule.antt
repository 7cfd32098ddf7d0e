-- The rule of the note: what its word, its pen and the passes that are out have to do with each other, and what a step tells.
use Rattle.std.specs.Prelude.{◌≡◌, ◌≢◌, ◌⊎◌, ℕ, ◌≤◌, List, [], ◌∷◌, ◌++◌, length, Option, Some, None, is_some, true}
use mathlib.Core.Option.{some}
use lib.ListN.{get_elem?}
use Rattle.atomic_table.specs.Table.{State, Me, Step as TableStep}
use Rattle.db_value.specs.declared.step.Step.{Step}
use Rattle.history_note.specs.declared.view.NotedLine.{NotedLine}
use Rattle.history_note.specs.declared.view.PassView.{PassView}
use Rattle.history_note.specs.declared.view.PenView.{PenView}
use Rattle.history_note.specs.declared.view.View.{View}
use Rattle.history_note.specs.declared.view.View.TheVariants.{Spent, OfPen, OfPass}
use Rattle.history_note.specs.Places.{places, places_from, owed_to, kept_for, IsNoted, AllIssued, AllOwedIssued, AllKeptIssued}
use Rattle.history_note.specs.Views.{says_number, says_session, writes, leaves}

-- a line with this number and text stands at the place
abbrev pub LineAt : List NotedLine → ℕ → ℕ → List ℕ → Type 0
LineAt lines p n t = (l : NotedLine) × (get_elem? lines p ≡ some l) × (l.number ≡ n) × (l.step.line ≡ t)

-- Of the line that a pass left, against what is kept for its number and what is owed to it. If it left none, none is kept and nothing is owed. Otherwise its line is kept and
-- nothing is owed, or none is kept and one place is owed, at which its line stands.
abbrev pub LeftFits : List NotedLine → Option (List ℕ) → List ℕ → ℕ → Option (List ℕ) → Type 0
LeftFits lines kept owed n None = (kept ≡ None) × (owed ≡ [])
LeftFits lines kept owed n (Some t) = ((kept ≡ Some t) × (owed ≡ [])) ⊎ ((kept ≡ None) × ((p : ℕ) × (owed ≡ p ∷ []) × LineAt lines p n t))

module _ {St : Type 0} where
  -- Of a pass that is out, against what its pen has. It has the pen's opening. Its session is the one noted with its number, `seen` is a beginning of the list, and
  -- `mine` has the places of its lines in there. Its lines after that beginning stand at just the places that the pen owes to its number. The line that it left is kept, or
  -- is the one that is owed.
  pub record Fits (opening : St) (noted : List (ℕ × ℕ)) (lines : List NotedLine) (owed : List (ℕ × ℕ)) (kept : List (ℕ × List ℕ)) (q : PassView St) : Type 0 where
    pub opening_is : q.opening ≡ opening
    pub is_noted : IsNoted noted q.number q.session
    pub mine_is : q.mine ≡ places q.number q.seen
    pub rest : List NotedLine
    pub prefix : lines ≡ q.seen ++ rest
    pub rest_is : places_from q.number (length q.seen) rest ≡ owed_to q.number owed
    pub left_fits : LeftFits lines (kept_for q.number kept) (owed_to q.number owed) q.number q.left

  -- Of the carried pass: the same, but `mine` goes on with the places of the lines that were written with its number since it was taken in, and its line is against what was
  -- kept for its number then.
  pub record IsCarried (opening : St) (noted : List (ℕ × ℕ)) (lines : List NotedLine) (owed : List (ℕ × ℕ)) (kept_then : Option (List ℕ)) (c : PassView St) : Type 0 where
    pub opening_is : c.opening ≡ opening
    pub is_noted : IsNoted noted c.number c.session
    pub rest : List NotedLine
    pub written : List ℕ
    pub prefix : lines ≡ c.seen ++ rest
    pub mine_is : c.mine ≡ places c.number c.seen ++ written
    pub rest_is : places_from c.number (length c.seen) rest ≡ owed_to c.number owed ++ written
    pub left_fits : LeftFits lines kept_then (owed_to c.number owed) c.number c.left

  -- that, if the pen carries a pass
  abbrev pub CarriedFits : St → List (ℕ × ℕ) → List NotedLine → List (ℕ × ℕ) → Option (List ℕ) → Option (PassView St) → Type 0
  CarriedFits opening noted lines owed kept_then None = Unit {0}
  CarriedFits opening noted lines owed kept_then (Some c) = IsCarried opening noted lines owed kept_then c

  -- the number isn't that of the carried pass
  abbrev pub IsNotCarried : ℕ → Option (PassView St) → Type 0
  IsNotCarried n None = Unit {0}
  IsNotCarried n (Some c) = n ≢ c.number

  -- the number is that of the carried pass
  abbrev pub IsTheCarried : ℕ → Option (PassView St) → Type 0
  IsTheCarried n None = ⊥
  IsTheCarried n (Some c) = n ≡ c.number

  -- the line is the one that is kept for the number, or none is kept for it and it is the carried pass's
  abbrev pub IsNext : List (ℕ × List ℕ) → Option (PassView St) → ℕ → List ℕ → Type 0
  IsNext kept carried n t = (kept_for n kept ≡ Some t) ⊎ ((kept_for n kept ≡ None) × IsTheCarried n carried)

  -- of the pen alone: each line's number was issued, so was each number to which something is owed or for which a line is kept, and the carried pass is as it should be
  pub record PenFacts (opening : St) (noted : List (ℕ × ℕ)) (lines : List NotedLine) (owed : List (ℕ × ℕ)) (kept : List (ℕ × List ℕ)) (kept_then : Option (List ℕ)) (carried : Option (PassView St)) : Type 0 where
    pub lines_issued : AllIssued noted lines
    pub owed_issued : AllOwedIssued noted owed
    pub kept_issued : AllKeptIssued noted kept
    pub carried_fits : CarriedFits opening noted lines owed kept_then carried

  abbrev pub IsPen : PenView St → Type 0
  IsPen p = PenFacts p.opening p.noted p.lines p.owed p.kept p.kept_then p.carried

  -- the view is a pen's
  abbrev pub PenIs : View St → Type 0
  PenIs (OfPen p) = IsPen p
  PenIs Spent = ⊥
  PenIs (OfPass q) = ⊥

  -- the view is that of a pen that carries a pass
  abbrev pub Carries : View St → Type 0
  Carries (OfPen p) = IsPen p × (is_some p.carried ≡ true)
  Carries Spent = ⊥
  Carries (OfPass q) = ⊥

  -- of a pass alone
  abbrev pub IsPass : PassView St → Type 0
  IsPass q = q.mine ≡ places q.number q.seen

  -- the view is a pass's
  abbrev pub PassIs : View St → Type 0
  PassIs (OfPass q) = IsPass q
  PassIs Spent = ⊥
  PassIs (OfPen p) = ⊥

  -- the pass is out, and the pen carries none with its number
  pub record IsOut (p : PenView St) (q : PassView St) : Type 0 where
    pub fits : Fits p.opening p.noted p.lines p.owed p.kept q
    pub not_carried : IsNotCarried q.number p.carried

  -- of what the seat `by` knows: one seat is the pen's, and each number has one seat at most whose pass is out
  abbrev pub SeatFits : ℕ → (ℕ → ℕ) → PenView St → ℕ → View St → Type 0
  SeatFits seat holder p by Spent = Unit {0}
  SeatFits seat holder p by (OfPen r) = (by ≡ seat) × (r ≡ p)
  SeatFits seat holder p by (OfPass q) = (by ≡ holder q.number) × IsOut p q

  -- of all: which seat is the pen's, what the pen knows, which seat holds a number's pass, and that the word is the length of the list
  pub record KeptAs (opening : St) (s : State Step (View St)) (seat : ℕ) (p : PenView St) : Type 0 where
    pub holder : ℕ → ℕ
    pub word : s.words ≡ length p.lines ∷ []
    pub opening_is : p.opening ≡ opening
    pub pen_is : IsPen p
    pub each : (by : ℕ) (v : View St) → get_elem? s.views by ≡ some v → SeatFits seat holder p by v

  -- the rule
  abbrev pub Kept : St → State Step (View St) → Type 0
  Kept opening s = (seat : ℕ) × (p : PenView St) × KeptAs opening s seat p

  -- what a look at the word tells a pen and a pass
  abbrev pub Tells : ℕ → View St → Type 0
  Tells n Spent = Unit {0}
  Tells n (OfPen p) = (n ≡ length p.lines) × IsPen p
  Tells n (OfPass q) = (length q.seen ≤ n) × IsPass q

  -- a look changes nothing
  abbrev pub looked : TableStep Step → Me Step (View St) → ℕ → Me Step (View St) → Type 0
  looked st m n m' = (m' ≡ m) × Tells n m.0

  abbrev pub with_pen : (PenView St → PenView St) → View St → View St
  with_pen f (OfPen p) = OfPen (f p)
  with_pen f Spent = Spent
  with_pen f (OfPass q) = OfPass q

  -- the pen says a number
  abbrev pub said_number : TableStep Step → Me Step (View St) → ℕ → Me Step (View St) → Type 0
  said_number st m n m' = (m' ≡ (with_pen (says_number st.first) m.0, m.1)) × Tells n m.0

  -- the pen says a session
  abbrev pub said_session : TableStep Step → Me Step (View St) → ℕ → Me Step (View St) → Type 0
  said_session st m n m' = (m' ≡ (with_pen (says_session st.first) m.0, m.1)) × Tells n m.0

  -- the pen writes a line
  abbrev pub wrote : TableStep Step → Me Step (View St) → ℕ → Me Step (View St) → Type 0
  wrote st m n m' = (s : Step) → st.said ≡ some s → m' ≡ (with_pen (writes s) m.0, m.1)

  -- a line is left with the pen
  abbrev pub left_line : List ℕ → TableStep Step → Me Step (View St) → ℕ → Me Step (View St) → Type 0
  left_line t st m n m' = m' ≡ (with_pen (leaves t) m.0, m.1)
