-- Rows of a lock table, which needs conflict with them, and who holds a lock.
use Rattle.std.specs.Prelude.{ℕ, ◌==◌, nat_lt, cond, not, ◌&&◌, ◌||◌, Bool, false, List, [], ◌∷◌, Option, Some, None}
use Rattle.lock_table.specs.declared.need.Need.{Need}

-- a granted need, and the session that has it
pub record Row : Type 0 where
  pub session : ℕ
  pub need : Need

-- what is granted, and which sessions the table has room for
pub record Table : Type 0 where
  pub rows : List Row
  pub admitted : List ℕ

-- two needs are on one lock, and one of them is exclusive
abbrev pub conflict : Need → Need → Bool
conflict n m = n.lock == m.lock && (n.exclusive || m.exclusive)

-- one of the needs conflicts with this one
abbrev pub conflicts : List Need → Need → Bool
conflicts [] m = false
conflicts (n ∷ ns) m = conflict n m || conflicts ns m

-- another session's row conflicts with one of the needs
abbrev pub blocks : ℕ → List Need → Row → Bool
blocks session needs r = not (r.session == session) && conflicts needs r.need

-- the one with the lower lock, or on one lock the lower session
abbrev pub lesser : ℕ × ℕ → Option (ℕ × ℕ) → ℕ × ℕ
lesser p None = p
lesser p (Some q) = cond (nat_lt p.0 q.0 || (p.0 == q.0 && nat_lt p.1 q.1)) p q

-- the least lock with a row that blocks the needs, and the least session of such a row on it
abbrev pub holder : ℕ → List Need → List Row → Option (ℕ × ℕ)
holder session needs [] = None
holder session needs (r ∷ rs) =
    cond (blocks session needs r) (Some (lesser (r.need.lock, r.session) (holder session needs rs))) (holder session needs rs)

-- a row of the session conflicts with one of the needs
abbrev pub holds : ℕ → List Need → List Row → Bool
holds session needs [] = false
holds session needs (r ∷ rs) = (r.session == session && conflicts needs r.need) || holds session needs rs
