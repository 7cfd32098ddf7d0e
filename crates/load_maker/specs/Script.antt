-- The load script of a number: what is drawn for each line, the line, and the whole script.
use Rattle.std.specs.Prelude.{ℕ, zero, suc, ◌+◌, ◌*◌, ◌/◌, ◌%◌, ◌^◌, ◌==◌, if◌then◌else◌, List, [], ◌∷◌, ◌++◌, codes}
use Rattle.std.specs.Fmt.{decimal}

-- the number that is drawn for line i, of 64 bits; the script's own number is drawn for line 0
unfoldable pub drawn : ℕ → ℕ → ℕ
drawn n zero = n
drawn n (suc i) = (drawn n i * 6364136223846793005 + 1442695040888963407) % 2 ^ 64

-- the session of line i, from 1 to 4
abbrev pub session_of : ℕ → ℕ
session_of i = 1 + i % 4

-- the key and the value that a drawn number says, by its upper 31 bits
abbrev pub key_in : ℕ → ℕ
key_in x = x / 2 ^ 33 % 10000

abbrev pub value_in : ℕ → ℕ
value_in x = x / 2 ^ 33 % 1000

-- a session's statement about a key of the one relation
abbrev pub about_key : ℕ → List ℕ → ℕ → List ℕ
about_key session verb key = decimal session ++ 32 ∷ (verb ++ codes " items " ++ decimal key)

-- Line i of a script, for which x is drawn. Each 512th line makes a branch of master, and each other 8th one reads.
abbrev pub line_with : ℕ → ℕ → List ℕ
line_with i x =
    if i % 512 == 0 then codes "1 branch b" ++ decimal (i / 512) ++ codes " of master"
    else if i % 8 == 0 then about_key (session_of i) (codes "get") (key_in x)
    else if i % 8 == 6 then about_key (session_of i) (codes "update") (key_in x) ++ codes " a=" ++ decimal (value_in x)
    else if i % 8 == 7 then about_key (session_of i) (codes "delete") (key_in x)
    else about_key (session_of i) (codes "insert") (key_in x) ++ 32 ∷ (decimal (value_in x) ++ codes " 0")

-- line i of the script of n
abbrev pub line_at : ℕ → ℕ → List ℕ
line_at n i = line_with i (drawn n i)

-- the first lines of the script of n, each with its end, as many as count
unfoldable pub first_lines : ℕ → ℕ → List ℕ
first_lines n zero = []
first_lines n (suc count) = first_lines n count ++ (line_at n (suc count) ++ 10 ∷ [])

-- the schema, the lines from 1 to n, and a scan of all heads
abbrev pub script_of : ℕ → List ℕ
script_of n = codes "relation items a b\nend\n" ++ first_lines n n ++ codes "1 scan items in heads\n"
