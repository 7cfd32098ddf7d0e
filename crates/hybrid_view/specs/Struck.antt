-- The bits that a commit clears, by the places that an index has of the touched keys.
use Rattle.std.specs.Prelude.{ℕ, ◌==◌, ◌&&◌, ◌||◌, cond, Bool, false, List, [], ◌∷◌, map, Option, Some, None}
use Rattle.db_value.specs.declared.entry.Change.{Change}
use Rattle.hybrid_view.specs.Live.{Piece, place_of}

-- the slot of a segment is one of these places
abbrev pub struck : List (Option (ℕ × ℕ)) → ℕ → ℕ → Bool
struck [] segment slot = false
struck (None ∷ os) segment slot = struck os segment slot
struck (Some x ∷ os) segment slot = (x.0 == segment && x.1 == slot) || struck os segment slot

-- the place of the key of a change, if it is one of the relation
abbrev pub touched_place : List Piece → ℕ → Change → Option (ℕ × ℕ)
touched_place ps r c = cond (c.relation == r) (place_of ps c.key) None

-- the places of the keys that changes of a relation touch
abbrev pub touched_places : List Piece → List Change → ℕ → List (Option (ℕ × ℕ))
touched_places ps cs r = map (touched_place ps r) cs
