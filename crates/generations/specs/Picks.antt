-- Which of two files counts, by their headers.
use Rattle.std.specs.Prelude.{ℕ, Bool, true, false, nat_lt, cond, List, Option, Some, None}
use Rattle.generations.specs.declared.header.Header.{Header}

-- the file that counts, and its header
abbrev pub pick_of : Option Header → Option Header → Option (Bool × Header)
pick_of None None = None
pick_of None (Some b) = Some (true, b)
pick_of (Some a) None = Some (false, a)
pick_of (Some a) (Some b) = cond (nat_lt a.generation b.generation) (Some (true, b)) (Some (false, a))

-- the bytes of the first file or of the second one
abbrev pub of_two : Bool → List ℕ → List ℕ → List ℕ
of_two false c d = c
of_two true c d = d
