-- A key has a place exactly where there is a record with it.
use Rattle.std.proofs.Common.{◌≡◌, ◌==◌, ◌<◌, ◌+◌, ℕ, Bool, true, false, cond, List, [], ◌∷◌, ◌++◌, length, take, ap, sym, ◌∙◌, refl, Option, Some, None}
use Rattle.std.specs.Prelude.{is_some}
use Rattle.std.proofs.lemmas.List.{take_more, map-append}
use Rattle.db_value.specs.Value.{Value}
use Rattle.db_value.specs.declared.entry.Change.{Change}
use Rattle.db_value.specs.PackedChanges.{change_here}
use Rattle.db_store.specs.Counts.{recounted}
use Rattle.hybrid_view.specs.Struck.{touched_place, touched_places}
use Rattle.std.specs.FinMap.{get}
use Rattle.db_store.proofs.BitLemmas.{get_contents}
use Rattle.hybrid_view.specs.Live.{Piece, Lived, live_pieces, place_of, contents_in}
use Rattle.hybrid_view.proofs.FindLemmas.{found_in, found_none}

pub has_place : (l : Lived) (key : ℕ) → is_some (place_of l.pieces key) ≡ is_some (get (contents_in l) key)
has_place l key = by (place_of l.pieces key) refl
  where
    by : (o : Option (ℕ × ℕ)) → place_of l.pieces key ≡ o → is_some o ≡ is_some (get (contents_in l) key)
    by None e = sym (ap (λ (f : Option (List Value)). is_some f) (get_contents (live_pieces l.pieces) key ∙ found_none l.pieces key e))
    by (Some x) e = sym (ap (λ (f : Option (List Value)). is_some f) (get_contents (live_pieces l.pieces) key ∙ (found_in l.pieces key x.0 x.1 e).1.fields))

-- so a change recounts the keys by its place
pub keys_more : (l : Lived) (r : ℕ) (c : Change) (n : ℕ) → cond (c.relation == r) (recounted n (is_some (touched_place l.pieces r c)) (is_some c.fields)) n ≡ cond (c.relation == r) (recounted n (is_some (get (contents_in l) c.key)) (is_some c.fields)) n
keys_more l r c n = by (c.relation == r)
  where
    by : (b : Bool) → cond b (recounted n (is_some (cond b (place_of l.pieces c.key) None)) (is_some c.fields)) n ≡ cond b (recounted n (is_some (get (contents_in l) c.key)) (is_some c.fields)) n
    by true = ap (λ (w : Bool). recounted n w (is_some c.fields)) (has_place l c.key)
    by false = refl

abbrev no_change : Change
no_change = record { relation = 0; key = 0; fields = None; widths = None }

-- one change more touches a place
pub touched_more : (ps : List Piece) (cs : List Change) (r i : ℕ) → i < length cs → touched_places ps (take (i + 1) cs) r ≡ touched_places ps (take i cs) r ++ touched_place ps r (change_here cs i) ∷ []
touched_more ps cs r i h = ap (λ (ds : List Change). touched_places ps ds r) (take_more cs i no_change h) ∙ map-append (touched_place ps r) (take i cs) (change_here cs i ∷ [])
