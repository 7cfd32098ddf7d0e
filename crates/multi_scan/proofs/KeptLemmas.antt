-- Rows whose records stand in a list: one more, the row at a place, and rows in order.
use Rattle.std.proofs.Common.{◌≡◌, ℕ, zero, suc, ◌+◌, ◌-◌, ◌<◌, Bool, cond, List, [], ◌∷◌, ◌++◌, length, map, get_or, ap, ap₂, sym, ◌∙◌, refl, arith, Some, Equal, length-append}
use Rattle.std.specs.Prelude.{slice_get}
use Rattle.std.specs.Ordering.{is_lt}
use Rattle.std.specs.List.{AllByRecursion}
use Rattle.std.specs.List.Sorted.{IsSorted}
use Rattle.std.proofs.lemmas.Bool.{lt-ltb}
use Rattle.std.proofs.lemmas.List.{length-map, get_or-map, get_or_append_left, get_or-append-add, map-append, nil_from_length}
use Rattle.std.proofs.lemmas.Option.{slice_get-get_or}
use Rattle.db_value.specs.Marks.{marked_here}
use Rattle.db_value.specs.declared.record.Record.{Record}
use Rattle.db_value.specs.declared.record.Marked.{Marked}
use Rattle.db_store.proofs.RowLemmas.{all_append}
use Rattle.multi_scan.specs.declared.found.FoundRow.{FoundRow}
use Rattle.multi_scan.specs.Found.{row_cmp}
use Rattle.multi_scan.specs.Kept.{place_in, record_at, row_at, IsThere, kept_cmp}

abbrev pub no_record : Record
no_record = record { key = 0; fields = [] }

pub place_there : (place len : ℕ) → place < len → place_in place len ≡ place
place_there place len h = ap (λ (b : Bool). cond b place (len - 1)) (lt-ltb place len h)

-- what is read at a place is the record there
pub record_read : (records : List Record) (i : ℕ) → i < length records → slice_get records i ≡ Some (record_at records i)
record_read records i h = slice_get-get_or records i no_record h

-- a record more leaves the rows before it
row_stays : (records : List Record) (r : Record) (f : FoundRow) → IsThere records f → row_at (records ++ r ∷ []) f ≡ row_at records f
row_stays records r f h =
    let more = records ++ r ∷ [] in
    let n = length-append records (r ∷ []) in
    ap (λ (k : ℕ). record { row = record_at more k; positions = f.positions }) (place_there f.place (length more) (omega (arith, h, n)))
    ∙ ap (λ (x : Record). record { row = x; positions = f.positions }) (get_or_append_left records (r ∷ []) no_record f.place h)
    ∙ ap (λ (k : ℕ). record { row = record_at records k; positions = f.positions }) (sym (place_there f.place (length records) h))

rows_stay : (records : List Record) (r : Record) (fs : List FoundRow) → AllByRecursion (IsThere records) fs → map (row_at (records ++ r ∷ [])) fs ≡ map (row_at records) fs
rows_stay records r [] all = refl
rows_stay records r (f ∷ fs) all = ap₂ (λ (m : Marked) (ms : List Marked). m ∷ ms) (row_stays records r f all.0) (rows_stay records r fs all.1)

pub all_stay : (records : List Record) (r : Record) (fs : List FoundRow) → AllByRecursion (IsThere records) fs → AllByRecursion (IsThere (records ++ r ∷ [])) fs
all_stay records r [] all = tt
all_stay records r (f ∷ fs) all = let n = length-append records (r ∷ []) in let h = all.0 in (omega (arith, h, n), all_stay records r fs all.1)

-- the row of the record that was put last
abbrev pub last_row : List Record → List ℕ → FoundRow
last_row records ps = record { place = length records; positions = ps }

pub all_more : (records : List Record) (r : Record) (ps : List ℕ) (fs : List FoundRow) → AllByRecursion (IsThere records) fs → AllByRecursion (IsThere (records ++ r ∷ [])) (fs ++ last_row records ps ∷ [])
all_more records r ps fs all =
    let n = length-append records (r ∷ []) in
    all_append (IsThere (records ++ r ∷ [])) fs (last_row records ps ∷ []) (all_stay records r fs all) (omega (arith, n), tt)

last_is : (records : List Record) (r : Record) (ps : List ℕ) → row_at (records ++ r ∷ []) (last_row records ps) ≡ record { row = r; positions = ps }
last_is records r ps =
    let more = records ++ r ∷ [] in
    let n = length-append records (r ∷ []) in
    let none : length records + 0 ≡ length records = omega arith in
    ap (λ (k : ℕ). record { row = record_at more k; positions = ps }) (place_there (length records) (length more) (omega (arith, n)) ∙ sym none)
    ∙ ap (λ (x : Record). record { row = x; positions = ps }) (get_or-append-add records (r ∷ []) 0 no_record)

pub rows_more : (records : List Record) (r : Record) (ps : List ℕ) (fs : List FoundRow) → AllByRecursion (IsThere records) fs → map (row_at (records ++ r ∷ [])) (fs ++ last_row records ps ∷ []) ≡ map (row_at records) fs ++ record { row = r; positions = ps } ∷ []
rows_more records r ps fs all =
    map-append (row_at (records ++ r ∷ [])) fs (last_row records ps ∷ [])
    ∙ ap₂ (λ (a : List Marked) (b : Marked). a ++ b ∷ []) (rows_stay records r fs all) (last_is records r ps)

-- ---- the row at a place

pub there_at : (records : List Record) (fs : List FoundRow) (i : ℕ) (f : FoundRow) → AllByRecursion (IsThere records) fs → i < length fs → IsThere records (get_or fs i f)
there_at records [] i f all h = absurd (omega (arith, h))
there_at records (g ∷ fs) zero f all h = all.0
there_at records (g ∷ fs) (suc i) f all h = there_at records fs i f all.1 (omega (arith, h))

pub here_is : (records : List Record) (fs : List FoundRow) (i : ℕ) (f : FoundRow) → i < length fs → row_at records (get_or fs i f) ≡ marked_here (map (row_at records) fs) i
here_is records fs i f h =
    sym (get_or-map (row_at records) fs i f (record { row = no_record; positions = [] }) h)

pub record_is : (records : List Record) (f : FoundRow) → IsThere records f → record_at records f.place ≡ (row_at records f).row
record_is records f h = ap (record_at records) (sym (place_there f.place (length records) h))

-- ---- rows in order

pub none_there : (records : List Record) (a b : FoundRow) → length records ≡ 0 → Equal ≡ kept_cmp records a b
none_there records a b none = rw (nil_from_length records none) refl

abbrev no_row : FoundRow
no_row = record { place = 0; positions = [] }

-- what is in order by record stands for rows in order
pub rows_sorted : (records : List Record) (fs : List FoundRow) → IsSorted (kept_cmp records) fs → IsSorted row_cmp (map (row_at records) fs)
rows_sorted records fs h k d low lt =
    let n : length (map (row_at records) fs) ≡ length fs = length-map fs (row_at records) in
    let up : k + 1 < length fs = omega (arith, n, lt) in
    ap₂ (λ (x y : Marked). is_lt (row_cmp x y)) (get_or-map (row_at records) fs (k + 1) no_row d up) (get_or-map (row_at records) fs k no_row d (omega (arith, up))) ∙ h k no_row low up
