-- What the words of a lock table say of single rows.
use Rattle.std.specs.Prelude.{◌≡◌, ◌⊎◌, ◌↔◌, ℕ, ◌≤◌, true, false, List, MatchOption}
use Rattle.lock_table.specs.declared.need.Need.{Need}
use Rattle.lock_table.specs.Rows.{Row, blocks, holder}
use Rattle.lock_table.specs.Grants.{Has, row, added, without}

-- none of the rows blocks the needs
abbrev pub NoneBlocks : ℕ → List Need → List Row → Type 0
NoneBlocks session needs rows = (r : Row) → Has rows r → blocks session needs r ≡ false

-- a row of this lock and session blocks the needs, on the least lock, and there of the least session
pub record IsHolder (session : ℕ) (needs : List Need) (rows : List Row) (lock by : ℕ) : Type 0 where
  pub found : (r : Row) × Has rows r × (blocks session needs r ≡ true) × (r.need.lock ≡ lock) × (r.session ≡ by)
  pub least_lock : (r : Row) → Has rows r → blocks session needs r ≡ true → lock ≤ r.need.lock
  pub least_session : (r : Row) → Has rows r → blocks session needs r ≡ true → r.need.lock ≡ lock → by ≤ r.session

-- a holder is named exactly where a row blocks the needs, and it is the least one
abbrev pub HolderLaw : Type 0
HolderLaw = (session : ℕ) (needs : List Need) (rows : List Row)
    → MatchOption (holder session needs rows) (NoneBlocks session needs rows) (λ p. IsHolder session needs rows p.0 p.1)

-- the same rows, but where a session has a lock exclusively its shared row may be missing in the first
pub record Covers (some all : List Row) : Type 0 where
  pub among : (r : Row) → Has some r → Has all r
  pub covered : (r : Row) → Has all r → Has some r ⊎ Has some (row r.session (record { lock = r.need.lock; exclusive = true }))

-- who holds a lock depends on the set of rows alone, and an exclusive row covers a shared one
abbrev pub CoverLaw : Type 0
CoverLaw = (session : ℕ) (needs : List Need) (some all : List Row) → Covers some all → holder session needs some ≡ holder session needs all

-- after a grant there are the rows of before and the session's needs, and no others
abbrev pub AddedLaw : Type 0
AddedLaw = (session : ℕ) (needs : List Need) (rows : List Row) (r : Row)
    → Has (added session needs rows) r ↔ (Has rows r ⊎ ((r.session ≡ session) × Has needs r.need))

-- after a release there are the rows of before that are not the session's
abbrev pub WithoutLaw : Type 0
WithoutLaw = (session : ℕ) (rows : List Row) (r : Row) → Has (without session rows) r ↔ (Has rows r × (r.session ≡ session → ⊥))
