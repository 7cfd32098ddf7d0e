-- What the words of a table of waits say of single grants.
use Rattle.std.specs.Prelude.{◌≡◌, ◌⊎◌, ◌↔◌, ℕ, ◌≤◌, true, false, List}
use Rattle.lock_table.specs.Grants.{Has}
use Rattle.wait_die.specs.declared.want.Want.{Want}
use Rattle.wait_die.specs.declared.grant.Grant.{Grant}
use Rattle.wait_die.specs.declared.loss.Loss.{Loss}
use Rattle.wait_die.specs.declared.waits.Turn.{Turn}
use Rattle.wait_die.specs.declared.waits.Turn.TheVariants.{Granted, Wait, Lost}
use Rattle.wait_die.specs.Conflict.{is_below, conflict, conflicts, includes}
use Rattle.wait_die.specs.Waiting.{WaitTable, is_older, added, ended}
use Rattle.wait_die.specs.Turns.{turn_of}

-- an older session has a want that conflicts with this one of the asker
pub record IsAhead (begun : List ℕ) (session : ℕ) (ws : List Want) (gs : List Grant) (w : Want) (g : Grant) : Type 0 where
  pub wanted : Has ws w
  pub granted : Has gs g
  pub conflicting : conflict w g.want ≡ true
  pub older : is_older begun g.session session ≡ true

-- no older session has a conflicting want
abbrev pub NoneIsAhead : List ℕ → ℕ → List Want → List Grant → Type 0
NoneIsAhead begun session ws gs = (w : Want) (g : Grant) → IsAhead begun session ws gs w g → ⊥

-- an older session has a conflicting want, on the asker's least such lock, and is the least such session there
pub record IsLoss (begun : List ℕ) (session : ℕ) (ws : List Want) (gs : List Grant) (loss : Loss) : Type 0 where
  pub found : (w : Want) × (g : Grant) × IsAhead begun session ws gs w g × (w.lock ≡ loss.lock) × (g.session ≡ loss.by)
  pub least_lock : (w : Want) (g : Grant) → IsAhead begun session ws gs w g → is_below w.lock loss.lock ≡ false
  pub least_session : (w : Want) (g : Grant) → IsAhead begun session ws gs w g → w.lock ≡ loss.lock → loss.by ≤ g.session

-- another session has a want that conflicts with one of the asker's
pub record IsAgainst (session : ℕ) (ws : List Want) (gs : List Grant) (g : Grant) : Type 0 where
  pub granted : Has gs g
  pub other : g.session ≡ session → ⊥
  pub conflicting : conflicts ws g.want ≡ true

-- no other session has a conflicting want
abbrev pub NoneIsAgainst : ℕ → List Want → List Grant → Type 0
NoneIsAgainst session ws gs = (g : Grant) → IsAgainst session ws gs g → ⊥

-- another session has a conflicting want, and is the least such session
pub record IsHolder (session : ℕ) (ws : List Want) (gs : List Grant) (by : ℕ) : Type 0 where
  pub found : (g : Grant) × IsAgainst session ws gs g × (g.session ≡ by)
  pub least : (g : Grant) → IsAgainst session ws gs g → by ≤ g.session

-- what an answer says: it is lost where an older session has a conflicting want, or else waits where another one has, or else is granted
abbrev pub Says : WaitTable → ℕ → List Want → Turn → Type 0
Says t session ws (Lost lock by) = IsLoss t.begun session ws t.grants (record { lock = lock; by = by })
Says t session ws (Wait on) = NoneIsAhead t.begun session ws t.grants × IsHolder session ws t.grants on
Says t session ws Granted = NoneIsAhead t.begun session ws t.grants × NoneIsAgainst session ws t.grants

-- a session is told what is so
abbrev pub TurnLaw : Type 0
TurnLaw = (t : WaitTable) (session : ℕ) (ws : List Want) → Says t session ws (turn_of t session ws)

-- a session has a granted want that includes this one
abbrev pub HasWant : List Grant → ℕ → Want → Type 0
HasWant gs session w = (g : Grant) × Has gs g × (g.session ≡ session) × (includes g.want w ≡ true)

-- after a grant there are the grants of before and some of the wants, and each want is included in one
pub record IsAdded (session : ℕ) (ws : List Want) (old new : List Grant) : Type 0 where
  pub kept : (g : Grant) → Has old g → Has new g
  pub only : (g : Grant) → Has new g → Has old g ⊎ ((g.session ≡ session) × Has ws g.want)
  pub all : (w : Want) → Has ws w → HasWant new session w

-- a grant adds wants and nothing else
abbrev pub AddedLaw : Type 0
AddedLaw = (session : ℕ) (ws : List Want) (gs : List Grant) → IsAdded session ws gs (added session ws gs)

-- a want conflicts with whatever a want that it includes conflicts with
abbrev pub IncludesLaw : Type 0
IncludesLaw = (v w u : Want) → includes v w ≡ true → conflict u w ≡ true → conflict u v ≡ true

-- the end of a transaction leaves the grants of the other sessions
abbrev pub EndedLaw : Type 0
EndedLaw = (t : WaitTable) (session : ℕ) (g : Grant) → Has (ended t session).grants g ↔ (Has t.grants g × (g.session ≡ session → ⊥))
