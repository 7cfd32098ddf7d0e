-- Which lines of a list are a number's own, what is owed to it, which line is kept for it, and for which session it was noted.
use Rattle.std.specs.Prelude.{◌≡◌, ℕ, ◌+◌, ◌⊎◌, ◌==◌, List, [], ◌∷◌, ◌++◌, cond, Option, Some, None}
use Rattle.history_note.specs.declared.view.NotedLine.{NotedLine}

-- the place p, if m is n
abbrev pub place_if : ℕ → ℕ → ℕ → List ℕ
place_if n m p = cond (m == n) (p ∷ []) []

-- the places of the lines that were entered with the number n, if the first line stands at k
abbrev pub places_from : ℕ → ℕ → List NotedLine → List ℕ
places_from n k [] = []
places_from n k (l ∷ ls) = place_if n l.number k ++ places_from n (k + 1) ls

-- the places of the lines of a list that were entered with the number n, ascending
abbrev pub places : ℕ → List NotedLine → List ℕ
places n ls = places_from n 0 ls

-- the places that are owed to the number n
abbrev pub owed_to : ℕ → List (ℕ × ℕ) → List ℕ
owed_to n [] = []
owed_to n (o ∷ os) = place_if n o.0 o.1 ++ owed_to n os

-- what is owed, unless it is owed to n
abbrev pub unless_to : ℕ → ℕ × ℕ → List (ℕ × ℕ)
unless_to n o = cond (o.0 == n) [] (o ∷ [])

-- what is owed to other numbers than n
abbrev pub without : ℕ → List (ℕ × ℕ) → List (ℕ × ℕ)
without n [] = []
without n (o ∷ os) = unless_to n o ++ without n os

-- the line that is kept for the number n, if there is one
abbrev pub kept_for : ℕ → List (ℕ × List ℕ) → Option (List ℕ)
kept_for n [] = None
kept_for n (k ∷ ks) = cond (k.0 == n) (Some k.1) (kept_for n ks)

-- what is kept, unless it is kept for n
abbrev pub unless_for : ℕ → ℕ × List ℕ → List (ℕ × List ℕ)
unless_for n k = cond (k.0 == n) [] (k ∷ [])

-- what is kept for other numbers than n
abbrev pub kept_without : ℕ → List (ℕ × List ℕ) → List (ℕ × List ℕ)
kept_without n [] = []
kept_without n (k ∷ ks) = unless_for n k ++ kept_without n ks

-- the number n was noted with the session s
abbrev pub IsNoted : List (ℕ × ℕ) → ℕ → ℕ → Type 0
IsNoted [] n s = ⊥
IsNoted (x ∷ xs) n s = ((x.0 ≡ n) × (x.1 ≡ s)) ⊎ IsNoted xs n s

-- a pass was issued under the number n
abbrev pub IsIssued : List (ℕ × ℕ) → ℕ → Type 0
IsIssued xs n = (s : ℕ) × IsNoted xs n s

-- each line was entered with a number that was issued
abbrev pub AllIssued : List (ℕ × ℕ) → List NotedLine → Type 0
AllIssued noted [] = Unit {0}
AllIssued noted (l ∷ ls) = IsIssued noted l.number × AllIssued noted ls

-- what is owed is owed to numbers that were issued
abbrev pub AllOwedIssued : List (ℕ × ℕ) → List (ℕ × ℕ) → Type 0
AllOwedIssued noted [] = Unit {0}
AllOwedIssued noted (o ∷ os) = IsIssued noted o.0 × AllOwedIssued noted os

-- lines are kept for numbers that were issued
abbrev pub AllKeptIssued : List (ℕ × ℕ) → List (ℕ × List ℕ) → Type 0
AllKeptIssued noted [] = Unit {0}
AllKeptIssued noted (k ∷ ks) = IsIssued noted k.0 × AllKeptIssued noted ks
