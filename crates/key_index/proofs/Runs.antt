-- Several changes of entries, and parts of them.
use Rattle.std.proofs.Common.{◌≡◌, ℕ, ◌+◌, ◌-◌, ◌<◌, ◌≤◌, T, List, [], ◌∷◌, ◌++◌, length, take, drop, get_or, refl, sym, ap, ◌∙◌, arith, nat_cmp}
use Rattle.std.proofs.lemmas.List.{take-append-drop, take_all, drop-drop, drop_more, length-drop}
use Rattle.std.specs.FinMap.{from_sorted, is_sorted}
use Rattle.key_index.specs.declared.changes.SpotChange.{SpotChange}
use Rattle.key_index.specs.Blocks.{Entry, AllBelow, AllAbove, changed}
use Rattle.key_index.specs.Places.{Places, with_changes}
use Rattle.key_index.specs.Runs.{all_changed, Makes, Each, first_of}
use Rattle.key_index.proofs.Order.{changed_middle, sorted_changed, changed_map}

pub each_by : (P Q : ℕ → Type 0) (cs : List SpotChange) → ((key : ℕ) → P key → Q key) → Each P cs → Each Q cs
each_by P Q [] f e = tt
each_by P Q (c ∷ cs) f e = (f c.key e.0, each_by P Q cs f e.1)

pub each_push : (P : ℕ → Type 0) (cs : List SpotChange) (c : SpotChange) → Each P cs → P c.key → Each P (cs ++ c ∷ [])
each_push P [] c e p = (p, tt)
each_push P (d ∷ ds) c e p = (e.0, each_push P ds c e.1 p)

pub first_is : (cs : List SpotChange) (d : SpotChange) → 0 < length cs → (get_or cs 0 d).key ≡ first_of cs
first_is [] d h = absurd (omega arith)
first_is (c ∷ cs) d h = refl

-- what a slice from a place on has
pub rest_is : {X : Type 0} (xs : List X) (i : ℕ) → take (length xs - i) (drop i xs) ≡ drop i xs
rest_is xs i = take_all (length xs - i) (drop i xs) (omega (arith, length-drop i xs))

-- changes touch the middle alone

abbrev pub IsBetween : List Entry → List Entry → ℕ → Type 0
IsBetween before behind key = AllBelow before key × AllAbove behind key

pub all_changed_middle : (xs ys zs : List Entry) (cs : List SpotChange) → Each (IsBetween xs zs) cs → all_changed (xs ++ (ys ++ zs)) cs ≡ xs ++ (all_changed ys cs ++ zs)
all_changed_middle xs ys zs [] e = refl
all_changed_middle xs ys zs (c ∷ cs) e =
    ap (λ (t : List Entry). all_changed t cs) (changed_middle xs ys zs c.key c.place e.0.0 e.0.1)
    ∙ all_changed_middle xs (changed ys c.key c.place) zs cs e.1

pub sorted_all_changed : (es : List Entry) (cs : List SpotChange) → T (is_sorted nat_cmp es) → T (is_sorted nat_cmp (all_changed es cs))
sorted_all_changed es [] s = s
sorted_all_changed es (c ∷ cs) s = sorted_all_changed (changed es c.key c.place) cs (sorted_changed es c.key c.place s)

-- some changes, and then the others

all_changed-append : (es : List Entry) (cs ds : List SpotChange) → all_changed es (cs ++ ds) ≡ all_changed (all_changed es cs) ds
all_changed-append es [] ds = refl
all_changed-append es (c ∷ cs) ds = all_changed-append (changed es c.key c.place) cs ds

pub made_more : (cs : List SpotChange) (i n : ℕ) (now next all : List Entry) → Makes (drop i cs) now next n → all_changed now (drop i cs) ≡ all → all_changed next (drop (i + n) cs) ≡ all
made_more cs i n now next all makes so_far =
    ap (λ (t : List Entry). all_changed t (drop (i + n) cs)) makes.entries
    ∙ ap (λ (ds : List SpotChange). all_changed (all_changed now (take n (drop i cs))) ds) (sym (drop-drop n i cs))
    ∙ sym (all_changed-append now (take n (drop i cs)) (drop n (drop i cs)))
    ∙ ap (all_changed now) (take-append-drop n (drop i cs))
    ∙ so_far

pub made_within : (cs : List SpotChange) (i n : ℕ) (now next : List Entry) → i ≤ length cs → Makes (drop i cs) now next n → i + n ≤ length cs
made_within cs i n now next h makes = omega (arith, makes.within, length-drop i cs)

-- one change more
pub made_one : (cs : List SpotChange) (i : ℕ) (d : SpotChange) (now next all : List Entry) → i < length cs → next ≡ changed now (get_or cs i d).key (get_or cs i d).place → all_changed now (drop i cs) ≡ all → all_changed next (drop (i + 1) cs) ≡ all
made_one cs i d now next all here is so_far =
    ap (λ (t : List Entry). all_changed t (drop (i + 1) cs)) is ∙ ap (all_changed now) (sym (drop_more cs i d here)) ∙ so_far

-- the map that entries in order are, after changes
pub all_changed_map : (es : List Entry) (cs : List SpotChange) → T (is_sorted nat_cmp es) → from_sorted {R = nat_cmp} (all_changed es cs) ≡ with_changes (from_sorted es) cs
all_changed_map es [] s = refl
all_changed_map es (c ∷ cs) s =
    all_changed_map (changed es c.key c.place) cs (sorted_changed es c.key c.place s)
    ∙ ap (λ (m : Places). with_changes m cs) (changed_map es c.key c.place s)
