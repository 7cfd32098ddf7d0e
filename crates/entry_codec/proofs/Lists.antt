-- Lists of changes, one more at a time.
use Rattle.std.proofs.Common.{◌≡◌, Bool, true, false, cond, ◌&&◌, ◌||◌, subst, zero, suc, ℕ, ◌+◌, ◌<◌, ◌≤◌, List, [], ◌∷◌, ◌++◌, length, take, drop, refl, sym, ◌∙◌, ap, arith, get_or, append_assoc, Option, Some, None, option_map, option_and_then}
use Rattle.std.specs.Prelude.{IfSome}
use Rattle.std.specs.List.{list_all}
use Rattle.std.specs.Int.{w64, from_le_bytes, to_le_bytes}
use Rattle.std.proofs.lemmas.Bool.{and_parts, le-leb, false≢true}
use Rattle.std.proofs.lemmas.Option.{none-some}
use Rattle.std.proofs.lemmas.List.{drop_more}
use Rattle.db_value.specs.Value.{Value}
use Rattle.db_value.specs.Widths.{meets}
use Rattle.db_value.specs.PackedChanges.{change_here}
use Rattle.db_value.specs.declared.entry.Change.{Change}
use Rattle.db_store.specs.Fits.{is_before, first_is_before, ascends}
use Rattle.entry_codec.specs.Pushed.{Pushes, PushesForm}
use Rattle.entry_codec.specs.Grammar.{form_in, row_of, change_of, is_change, change_in, changes_in, onto}
use Rattle.db_store.specs.Body.{has_text, any_text, form_size, change_size, changes_size}
use Rattle.entry_codec.specs.Spelling.{row_form, field_count, fields_bytes, change_bytes, are_met, is_met}

-- changes in front of others
abbrev pub ahead : List Change → List Change → List Change
ahead xs ys = xs ++ ys

-- ---- changes in order

abbrev no_change : Change
no_change = record { relation = 0; key = 0; fields = None; widths = None }

-- a change that stands before the next one leaves the rest to be tried
pub ascends_next : (cs : List Change) (i : ℕ) → i + 1 < length cs → ascends (drop i cs) ≡ is_before (change_here cs i) (change_here cs (i + 1)) && ascends (drop (i + 1) cs)
ascends_next cs i h =
    let next : drop (i + 1) cs ≡ change_here cs (i + 1) ∷ drop (i + 1 + 1) cs = drop_more cs (i + 1) no_change h in
    ap ascends (drop_more cs i no_change (omega (arith, h)) ∙ ap (λ (ds : List Change). change_here cs i ∷ ds) next)
    ∙ ap (λ (ds : List Change). is_before (change_here cs i) (change_here cs (i + 1)) && ascends ds) (sym next)

-- one change alone is in order
pub ascends_alone : (cs : List Change) → length cs ≤ 1 → ascends cs ≡ true
ascends_alone [] h = refl
ascends_alone (c ∷ []) h = refl
ascends_alone (c ∷ d ∷ cs) h = absurd (omega (arith, h))

-- ---- one change of a list

pub next_is : (cs : List Change) (i : ℕ) → i < length cs → drop i cs ≡ change_here cs i ∷ drop (i + 1) cs
next_is cs i h = drop_more cs i no_change h

pub text_next : (cs : List Change) (i : ℕ) → i < length cs → any_text (drop i cs) ≡ has_text (change_here cs i) || any_text (drop (i + 1) cs)
text_next cs i h = ap any_text (next_is cs i h)

-- what holds of each holds of one
pub all_here : (p : Change → Bool) (cs : List Change) (i : ℕ) → i < length cs → list_all p cs ≡ true → p (change_here cs i) ≡ true
all_here p [] i h a = absurd (omega (arith, h))
all_here p (c ∷ cs) zero h a = (and_parts (p c) (list_all p cs) a).0
all_here p (c ∷ cs) (suc i) h a = all_here p cs i (omega (arith, h)) (and_parts (p c) (list_all p cs) a).1

-- a change without widths deletes
pub met_none : (c : Change) → c.widths ≡ None → is_met c ≡ true → c.fields ≡ None
met_none c e met = by c.fields c.widths e met
  where
    by : (fields : Option (List Value)) (widths : Option (List ℕ)) → widths ≡ None → are_met fields widths ≡ true → fields ≡ None
    by None widths e met = refl
    by (Some fs) None e met = absurd (false≢true met)
    by (Some fs) (Some ws) e met = absurd (none-some ws (sym e))

-- and one with widths puts fields that meet them
pub met_some : (c : Change) (ws : List ℕ) (read : List Value) → c.widths ≡ Some ws → is_met c ≡ true → IfSome c.fields (λ fs. read ≡ fs) → (c.fields ≡ Some read) × (meets ws read ≡ true)
met_some c ws read e met h = by c.fields (ap (are_met c.fields) (sym e) ∙ met) h
  where
    by : (fields : Option (List Value)) → are_met fields (Some ws) ≡ true → IfSome fields (λ fs. read ≡ fs) → (fields ≡ Some read) × (meets ws read ≡ true)
    by None met h = absurd (false≢true met)
    by (Some fs) met h = (ap (λ (x : List Value). Some x) (sym h), ap (meets ws) h ∙ met)

pub bytes_none : (wide : Bool) (c : Change) → c.widths ≡ None → is_met c ≡ true → change_bytes wide c ≡ c.relation ∷ (0 ∷ (to_le_bytes w64 c.key ++ []))
bytes_none wide c e met = ap (λ (o : Option (List Value)). c.relation ∷ (field_count o ∷ (to_le_bytes w64 c.key ++ fields_bytes wide o c.widths))) (met_none c e met)

pub bytes_some : (wide : Bool) (c : Change) (ws : List ℕ) (fields : List Value) → c.widths ≡ Some ws → c.fields ≡ Some fields → change_bytes wide c ≡ c.relation ∷ (length fields ∷ (to_le_bytes w64 c.key ++ row_form wide ws fields))
bytes_some wide c ws fields e f =
    ap (λ (o : Option (List Value)). c.relation ∷ (field_count o ∷ (to_le_bytes w64 c.key ++ fields_bytes wide o c.widths))) f
    ∙ ap (λ (o : Option (List ℕ)). c.relation ∷ (length fields ∷ (to_le_bytes w64 c.key ++ fields_bytes wide (Some fields) o))) e

-- ---- changes that are read

stops_with : (wide : Bool) (old new : List Change) (o : Option Change) (k : ℕ) (b : List ℕ) → Pushes wide old new o None
    → option_map (ahead old) (option_and_then (λ c. option_map (onto c) (changes_in wide k (drop (change_size wide c) b))) o) ≡ None
stops_with wide old new None k b p = refl
stops_with wide old new (Some c) k b p = absurd (cc p.0)

-- where no change is read, none of the list is
pub stops : (wide : Bool) (all : Option (List Change)) (old new : List Change) (k : ℕ) (b : List ℕ) → Pushes wide old new (change_in wide b) None → all ≡ option_map (ahead old) (changes_in wide (suc k) b) → all ≡ None
stops wide all old new k b p is = is ∙ stops_with wide old new (change_in wide b) k b p

two_maps : (old : List Change) (c : Change) (x : Option (List Change)) → option_map (ahead old) (option_map (onto c) x) ≡ option_map (ahead (old ++ c ∷ [])) x
two_maps old c None = refl
two_maps old c (Some cs) = ap (λ (l : List Change). Some l) (sym (append_assoc old (c ∷ []) cs))

goes_with : (wide : Bool) (old new : List Change) (o : Option Change) (n k : ℕ) (b : List ℕ) → Pushes wide old new o (Some n)
    → option_map (ahead old) (option_and_then (λ c. option_map (onto c) (changes_in wide k (drop (change_size wide c) b))) o) ≡ option_map (ahead new) (changes_in wide k (drop n b))
goes_with wide old new None n k b p = absurd (cc p.0)
goes_with wide old new (Some c) n k b p =
    let size : change_size wide c ≡ n = let e = p.0 in cc (sym e) in
    two_maps old c (changes_in wide k (drop (change_size wide c) b))
    ∙ ap (λ (l : List Change). option_map (ahead l) (changes_in wide k (drop (change_size wide c) b))) (sym p.1)
    ∙ ap (λ (m : ℕ). option_map (ahead new) (changes_in wide k (drop m b))) size

-- where one is, it stands behind the others
pub goes : (wide : Bool) (all : Option (List Change)) (old new : List Change) (n k : ℕ) (b : List ℕ) → Pushes wide old new (change_in wide b) (Some n) → all ≡ option_map (ahead old) (changes_in wide (suc k) b)
    → all ≡ option_map (ahead new) (changes_in wide k (drop n b))
goes wide all old new n k b p is = is ∙ goes_with wide old new (change_in wide b) n k b p

pub size_more : (wide : Bool) (cs : List Change) (c : Change) → changes_size wide (cs ++ c ∷ []) ≡ changes_size wide cs + change_size wide c
size_more wide [] c = omega arith
size_more wide (x ∷ cs) c = omega (arith, size_more wide cs c)

sized_with : (wide : Bool) (old new : List Change) (o : Option Change) (n : ℕ) → Pushes wide old new o (Some n) → changes_size wide new ≡ changes_size wide old + n
sized_with wide old new None n p = absurd (cc p.0)
sized_with wide old new (Some c) n p = let size : change_size wide c ≡ n = let e = p.0 in cc (sym e) in omega (arith, ap (changes_size wide) p.1, size_more wide old c, size)

pub sized : (wide : Bool) (old new : List Change) (n : ℕ) (b : List ℕ) → Pushes wide old new (change_in wide b) (Some n) → changes_size wide new ≡ changes_size wide old + n
sized wide old new n b p = sized_with wide old new (change_in wide b) n p

pushed_with : (wide : Bool) (old new : List Change) (r n : ℕ) (b : List ℕ) (o : Option (List ℕ)) (size : Option ℕ) → PushesForm wide old new r (from_le_bytes w64 (take 8 b)) n (drop 8 b) o size → Pushes wide old new (option_map (change_of wide r n b) o) (option_map (λ k. 10 + k) size)
pushed_with wide old new r n b None size p = (ap (λ (x : Option ℕ). option_map (λ k. 10 + k) x) p.0, p.1)
pushed_with wide old new r n b (Some ws) size p = (ap (λ (x : Option ℕ). option_map (λ k. 10 + k) x) p.0, p.1)

-- the change that its parts make
pub pushed_is : (wide : Bool) (b : List ℕ) (old new : List Change) (size : Option ℕ) → 2 ≤ length b → get_or b 0 0 ≤ 7 → get_or b 1 0 ≤ 15 → 8 ≤ length (drop 2 b)
    → PushesForm wide old new (get_or b 0 0) (from_le_bytes w64 (take 8 (drop 2 b))) (get_or b 1 0) (drop 8 (drop 2 b)) (form_in wide (get_or b 1 0) (drop 8 (drop 2 b))) size → Pushes wide old new (change_in wide b) (option_map (λ k. 10 + k) size)
pushed_is wide [] old new size two few some long p = absurd (omega (arith, two))
pushed_is wide (r ∷ []) old new size two few some long p = absurd (omega (arith, two))
pushed_is wide (r ∷ n ∷ rest) old new size two few some long p =
    let able : is_change r n rest ≡ true = search (arith, few, some, long) in
    subst (λ (o : Option Change). Pushes wide old new o (option_map (λ k. 10 + k) size)) (sym (ap (λ (q : Bool). cond q (option_map (change_of wide r n rest) (form_in wide n (drop 8 rest))) None) able))
    (pushed_with wide old new r n rest (form_in wide n (drop 8 rest)) size p)

-- a deletion
pub pushed_none : (wide : Bool) (old new : List Change) (r key : ℕ) (b : List ℕ) → new ≡ old ++ record { relation = r; key = key; fields = None; widths = None } ∷ [] → PushesForm wide old new r key 0 b (form_in wide 0 b) (Some 0)
pushed_none true old new r key b e = (refl, e)
pushed_none false old new r key b e = subst (λ (o : Option (List ℕ)). PushesForm false old new r key 0 b o (Some 0)) (sym (ap (λ (q : Bool). cond q (Some []) None) (le-leb 0 (length b) (omega arith)))) (refl, e)

-- a record that is put
pub pushed_some : (wide : Bool) (old new : List Change) (r key n : ℕ) (b ws : List ℕ) (size : ℕ) → 0 < n → size ≡ form_size wide ws → new ≡ old ++ record { relation = r; key = key; fields = Some (row_of wide ws b); widths = Some ws } ∷ [] → PushesForm wide old new r key n b (Some ws) (Some size)
pushed_some wide old new r key zero b ws size h e p = absurd (omega (arith, h))
pushed_some wide old new r key (suc n) b ws size h e p = (ap (λ (k : ℕ). Some k) e, p)
