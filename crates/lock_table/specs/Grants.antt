-- What a grant, a release and an admission make of a lock table.
use Rattle.std.specs.Prelude.{◌≡◌, ◌⊎◌, ℕ, ◌==◌, nat_lt, cond, not, ◌&&◌, ◌||◌, Bool, true, false, List, [], ◌∷◌, ◌++◌}
use Rattle.std.specs.List.{list_any}
use Rattle.lock_table.specs.declared.need.Need.{Need}
use Rattle.lock_table.specs.Rows.{Row, Table}

-- the list has this item
abbrev pub Has : {A : Type 0} → List A → A → Type 0
Has [] a = ⊥
Has (x ∷ xs) a = (x ≡ a) ⊎ Has xs a

-- there is room for the needs of this session
abbrev pub IsAdmitted : Table → ℕ → Type 0
IsAdmitted t session = Has t.admitted session

-- the row of a session with a need
abbrev pub row : ℕ → Need → Row
row session need = record { session = session; need = need }

-- both are true, or both are false
abbrev pub equal_bits : Bool → Bool → Bool
equal_bits true b = b
equal_bits false b = not b

-- the row is this session's with this need
abbrev pub is_row : ℕ → Need → Row → Bool
is_row session need r = r.session == session && (r.need.lock == need.lock && equal_bits r.need.exclusive need.exclusive)

-- the session has this very need
abbrev pub is_there : ℕ → Need → List Row → Bool
is_there session need [] = false
is_there session need (r ∷ rs) = is_row session need r || is_there session need rs

-- a row goes behind the rows of its lock and of lower ones
abbrev pub place : Row → List Row → List Row
place r [] = r ∷ []
place r (x ∷ xs) = cond (nat_lt r.need.lock x.need.lock) (r ∷ x ∷ xs) (x ∷ place r xs)

-- a need that isn't there yet is added
abbrev pub granted : ℕ → Need → List Row → List Row
granted session need rows = cond (is_there session need rows) rows (place (row session need) rows)

-- the needs that aren't there yet are added, one after the other
abbrev pub added : ℕ → List Need → List Row → List Row
added session [] rows = rows
added session (n ∷ ns) rows = added session ns (granted session n rows)

-- the rows of the other sessions
abbrev pub without : ℕ → List Row → List Row
without session [] = []
without session (r ∷ rs) = cond (r.session == session) (without session rs) (r ∷ without session rs)

-- the session joins at the end, unless it is there
abbrev pub joined : ℕ → List ℕ → List ℕ
joined session sessions = cond (list_any (λ s. s == session) sessions) sessions (sessions ++ session ∷ [])
