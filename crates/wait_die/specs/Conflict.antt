-- Which wants of two sessions conflict, and which lock comes first.
use Rattle.std.specs.Prelude.{ℕ, not, ◌&&◌, ◌||◌, Bool, true, false, List, [], ◌∷◌}
use Rattle.std.specs.Ordering.{is_lt, nat_cmp}
use Rattle.std.specs.Cmp.Lexicographic.{slice_cmp}
use Rattle.db_value.specs.Text.{same}
use Rattle.wait_die.specs.declared.want.WaitLock.{WaitLock}
use Rattle.wait_die.specs.declared.want.WaitLock.TheVariants.{Catalogue, Heads, Branch}
use Rattle.wait_die.specs.declared.want.Want.{Want}

-- it is the lock of the catalogue
abbrev pub is_catalogue : WaitLock → Bool
is_catalogue Catalogue = true
is_catalogue Heads = false
is_catalogue (Branch name) = false

-- it is the lock of all branches together
abbrev pub is_heads : WaitLock → Bool
is_heads Catalogue = false
is_heads Heads = true
is_heads (Branch name) = false

-- it is the lock of the branch with this name
abbrev pub is_branch : List ℕ → WaitLock → Bool
is_branch name Catalogue = false
is_branch name Heads = false
is_branch name (Branch other) = same name other

-- two locks are one
abbrev pub same_lock : WaitLock → WaitLock → Bool
same_lock Catalogue other = is_catalogue other
same_lock Heads other = is_heads other
same_lock (Branch name) other = is_branch name other

-- two locks are one, or one of them is that of all branches and the other is that of a branch
abbrev pub meets : WaitLock → WaitLock → Bool
meets Catalogue other = is_catalogue other
meets Heads other = not (is_catalogue other)
meets (Branch name) other = is_heads other || is_branch name other

-- two wants are on locks that meet, and one of them is exclusive
abbrev pub conflict : Want → Want → Bool
conflict w v = meets w.lock v.lock && (w.exclusive || v.exclusive)

-- one of the wants conflicts with this one
abbrev pub conflicts : List Want → Want → Bool
conflicts [] v = false
conflicts (w ∷ ws) v = conflict w v || conflicts ws v

-- the name of a branch comes before that of the other lock, by its bytes
abbrev pub is_branch_below : List ℕ → WaitLock → Bool
is_branch_below name Catalogue = false
is_branch_below name Heads = false
is_branch_below name (Branch other) = is_lt (slice_cmp nat_cmp name other)

-- the order of locks: the catalogue, all branches together, and branches by their names
abbrev pub is_below : WaitLock → WaitLock → Bool
is_below Catalogue other = not (is_catalogue other)
is_below Heads other = not (is_catalogue other || is_heads other)
is_below (Branch name) other = is_branch_below name other

-- a want on the same lock that conflicts with whatever the other one conflicts with
abbrev pub includes : Want → Want → Bool
includes v w = same_lock v.lock w.lock && (v.exclusive || not w.exclusive)
