-- Branches in the order of their names, and the map that they are.
use Rattle.std.proofs.Common.{◌≡◌, ℕ, zero, suc, ◌<◌, ◌≤◌, Bool, true, false, T, ◌&&◌, cond, List, [], ◌∷◌, length, map, get_or, Option, Some, None, Ordering, Less, Equal, Greater, ap, sym, subst, ◌∙◌, refl, arith}
use Rattle.std.specs.Ordering.{is_lt, is_eq, is_gt, ordering_reverse}
use Rattle.std.specs.List.{insert, AllWithin}
use Rattle.std.specs.List.Sorted.{IsPartitionedBy}
use Rattle.std.proofs.lemmas.Cmp.{nat_list_cmp_total, eq_by_cmp_equiv}
use Rattle.std.proofs.lemmas.List.{length-map}
use Rattle.std.specs.Cmp.Lexicographic.{texts_ties}
use Rattle.std.specs.FinMap as finite
use Rattle.std.specs.FinMap.{get, get-from_sorted, entries-insert, same_entries_map, from_sorted, entries-from_sorted, find, put, is_sorted, empty, empty_of_len, len, len-entries}
use Rattle.std.specs.FinMap.Entries.{below_all, is_sorted-put}
use Rattle.db_value.specs.Text.{same}
use Rattle.store_catalogue.specs.declared.names.NamedBranch.{NamedBranch}
use Rattle.store_catalogue.specs.ByName.{name_cmp, entry_of}

pub both_true : (a b : Bool) → T (a && b) → T a × T b
both_true true b h = (tt, h)
both_true false b h = absurd h

-- a name is greater where the other is less
turned : (a b : List ℕ) (r : Ordering) → name_cmp a b ≡ r → name_cmp b a ≡ ordering_reverse r
turned a b r e = nat_list_cmp_total.antisymm b a ∙ ap ordering_reverse e

less_is : (r : Ordering) → T (is_lt r) → r ≡ Less
less_is Less h = refl
less_is Equal h = absurd h
less_is Greater h = absurd h

after_is : (r : Ordering) → is_gt r ≡ true → r ≡ Greater
after_is Less h = absurd cc
after_is Equal h = absurd cc
after_is Greater h = refl

before_is : (r : Ordering) → is_gt r ≡ false → is_eq r ≡ false → r ≡ Less
before_is Less g e = refl
before_is Equal g e = absurd cc
before_is Greater g e = absurd cc

-- each name is greater
abbrev AllNamesAbove : List ℕ → List NamedBranch → Type 0
AllNamesAbove name [] = Unit {0}
AllNamesAbove name (n ∷ ns) = (name_cmp name n.name ≡ Less) × AllNamesAbove name ns

-- in order, the names behind the first are greater, and so than what is less
above_rest : (name first : List ℕ) (ns : List NamedBranch) → name_cmp name first ≡ Less → T (below_all name_cmp first (map entry_of ns)) → AllNamesAbove name ns
above_rest name first [] l b = tt
above_rest name first (n ∷ ns) l b =
    let two : T (is_lt (name_cmp first n.name)) × T (below_all name_cmp first (map entry_of ns)) = both_true _ _ b in
    (nat_list_cmp_total.trans name first n.name l (less_is _ two.0), above_rest name first ns l two.1)

find_above : (name : List ℕ) (ns : List NamedBranch) → AllNamesAbove name ns → find name_cmp name (map entry_of ns) ≡ None
find_above name [] a = refl
find_above name (n ∷ ns) a = rw a.0 (find_above name ns a.1)

-- a name that is greater than one is greater than those in front of it
below_at : (first : List ℕ) (ns : List NamedBranch) (j : ℕ) (d : NamedBranch) → T (below_all name_cmp first (map entry_of ns)) → j < length ns → name_cmp first (get_or ns j d).name ≡ Less
below_at first [] j d b h = absurd (omega arith)
below_at first (n ∷ ns) zero d b h = less_is _ (both_true _ _ b).0
below_at first (n ∷ ns) (suc j) d b h =
    let two : T (is_lt (name_cmp first n.name)) × T (below_all name_cmp first (map entry_of ns)) = both_true _ _ b in
    below_at first ns j d two.1 (omega arith)

pub parted_by_name : (name : List ℕ) (ns : List NamedBranch) → T (is_sorted name_cmp (map entry_of ns)) → IsPartitionedBy (λ (n : NamedBranch). is_gt (name_cmp name n.name)) ns
parted_by_name name [] s i j d le within after = absurd (omega arith)
parted_by_name name (n ∷ ns) s zero zero d le within after = after
parted_by_name name (n ∷ ns) s (suc i) zero d le within after = absurd (omega arith)
parted_by_name name (n ∷ ns) s zero (suc j) d le within after =
    let two : T (below_all name_cmp n.name (map entry_of ns)) × T (is_sorted name_cmp (map entry_of ns)) = both_true _ _ s in
    let m : NamedBranch = get_or ns j d in
    let first : name_cmp n.name m.name ≡ Less = below_at n.name ns j d two.0 (omega arith) in
    let then : name_cmp m.name name ≡ Less = turned name m.name Greater (after_is _ after) in
    ap is_gt (turned n.name name Less (nat_list_cmp_total.trans n.name m.name name first then))
parted_by_name name (n ∷ ns) s (suc i) (suc j) d le within after =
    let two : T (below_all name_cmp n.name (map entry_of ns)) × T (is_sorted name_cmp (map entry_of ns)) = both_true _ _ s in
    parted_by_name name ns two.1 i j d (omega arith) (omega arith) after

-- the first names are less
abbrev pub AllNamesLess : List ℕ → List NamedBranch → ℕ → Type 0
AllNamesLess name ns i = AllWithin (λ (n : NamedBranch). is_gt (name_cmp name n.name) ≡ true) ns 0 i

tail_less : (name : List ℕ) (n : NamedBranch) (ns : List NamedBranch) (i : ℕ) → AllNamesLess name (n ∷ ns) (suc i) → AllNamesLess name ns i
tail_less name n ns i less k d from to = less (suc k) d (omega arith) (omega arith)

-- behind these the name is found where it stands
pub found_at : (name : List ℕ) (ns : List NamedBranch) (i : ℕ) (d : NamedBranch) → AllNamesLess name ns i → i < length ns → same (get_or ns i d).name name ≡ true → find name_cmp name (map entry_of ns) ≡ Some (get_or ns i d).branch
found_at name [] i d less h e = absurd (omega arith)
found_at name (n ∷ ns) zero d less h e =
    let here : is_eq (name_cmp name n.name) ≡ true = (eq_by_cmp_equiv nat_list_cmp_total).symm name n.name ∙ sym (texts_ties n.name name) ∙ e in
    rw here refl
found_at name (n ∷ ns) (suc i) d less h e =
    let first : name_cmp name n.name ≡ Greater = after_is _ (less 0 n (omega arith) (omega arith)) in
    rw first (found_at name ns i d (tail_less name n ns i less) (omega arith) e)

-- a name that is neither less nor the same is greater
pub next_above : (name other : List ℕ) → is_gt (name_cmp name other) ≡ false → same other name ≡ false → name_cmp name other ≡ Less
next_above name other g e = before_is _ g ((eq_by_cmp_equiv nat_list_cmp_total).symm name other ∙ sym (texts_ties other name) ∙ e)

-- and nowhere else
pub found_not : (name : List ℕ) (ns : List NamedBranch) (i : ℕ) → T (is_sorted name_cmp (map entry_of ns)) → AllNamesLess name ns i → (i < length ns → (d : NamedBranch) → name_cmp name (get_or ns i d).name ≡ Less) → find name_cmp name (map entry_of ns) ≡ None
found_not name [] i s less next = refl
found_not name (n ∷ ns) zero s less next =
    let two : T (below_all name_cmp n.name (map entry_of ns)) × T (is_sorted name_cmp (map entry_of ns)) = both_true _ _ s in
    let l : name_cmp name n.name ≡ Less = next (omega arith) n in
    rw l (find_above name ns (above_rest name n.name ns l two.0))
found_not name (n ∷ ns) (suc i) s less next =
    let two : T (below_all name_cmp n.name (map entry_of ns)) × T (is_sorted name_cmp (map entry_of ns)) = both_true _ _ s in
    let first : name_cmp name n.name ≡ Greater = after_is _ (less 0 n (omega arith) (omega arith)) in
    rw first (found_not name ns i two.1 (tail_less name n ns i less) (λ h d. next (omega arith) d))

none_there : (b : Bool) (x : ℕ) (o : Option ℕ) → cond b (Some x) o ≡ None → (b ≡ false) × (o ≡ None)
none_there true x o e = absurd cc
none_there false x o e = (refl, e)

entry_is : (name : List ℕ) (branch : ℕ) (x : NamedBranch) → x.name ≡ name → x.branch ≡ branch → (name, branch) ≡ entry_of x
entry_is name branch x is_name is_branch = sym (λ k. (is_name k, is_branch k))

-- a new name is put behind the lesser ones
pub placed : (name : List ℕ) (branch : ℕ) (ns : List NamedBranch) (i : ℕ) (x : NamedBranch) → x.name ≡ name → x.branch ≡ branch → i ≤ length ns → AllNamesLess name ns i
    → (i < length ns → (d : NamedBranch) → is_gt (name_cmp name (get_or ns i d).name) ≡ false) → find name_cmp name (map entry_of ns) ≡ None
    → put name_cmp name branch (map entry_of ns) ≡ map entry_of (insert ns i x)
placed name branch [] zero x is_name is_branch within less next new = ap (λ e. e ∷ []) (entry_is name branch x is_name is_branch)
placed name branch [] (suc i) x is_name is_branch within less next new = absurd (omega arith)
placed name branch (n ∷ ns) zero x is_name is_branch within less next new =
    let none : (is_eq (name_cmp name n.name) ≡ false) × (find name_cmp name (map entry_of ns) ≡ None) = none_there _ n.branch _ new in
    let l : name_cmp name n.name ≡ Less = before_is _ (next (omega arith) n) none.0 in
    rw l (ap (λ e. e ∷ entry_of n ∷ map entry_of ns) (entry_is name branch x is_name is_branch))
placed name branch (n ∷ ns) (suc i) x is_name is_branch within less next new =
    let none : (is_eq (name_cmp name n.name) ≡ false) × (find name_cmp name (map entry_of ns) ≡ None) = none_there _ n.branch _ new in
    let first : name_cmp name n.name ≡ Greater = after_is _ (less 0 n (omega arith) (omega arith)) in
    let rest : put name_cmp name branch (map entry_of ns) ≡ map entry_of (insert ns i x) = placed name branch ns i x is_name is_branch (omega arith) (tail_less name n ns i less) (λ h d. next (omega arith) d) none.1 in
    rw first (ap (λ es. entry_of n ∷ es) rest)

-- the map of no names
pub no_names : from_sorted {K = List ℕ} {X = ℕ} {R = name_cmp} [] ≡ empty
no_names = empty_of_len _ (len-entries (from_sorted []) ∙ ap length (entries-from_sorted name_cmp [] tt))

-- the map of names in order has what is found among them
pub get_found : (ns : List NamedBranch) (name : List ℕ) → T (is_sorted name_cmp (map entry_of ns)) → get (from_sorted {R = name_cmp} (map entry_of ns)) name ≡ find name_cmp name (map entry_of ns)
get_found ns name s = get-from_sorted name_cmp (map entry_of ns) name s

-- a new name in its place makes the map with it
pub added : (ns ms : List NamedBranch) (name : List ℕ) (branch : ℕ) → T (is_sorted name_cmp (map entry_of ns)) → put name_cmp name branch (map entry_of ns) ≡ map entry_of ms
    → T (is_sorted name_cmp (map entry_of ms)) × (from_sorted {R = name_cmp} (map entry_of ms) ≡ finite.insert (from_sorted (map entry_of ns)) name branch)
added ns ms name branch s e =
    let sorted : T (is_sorted name_cmp (map entry_of ms)) = subst (λ es. T (is_sorted name_cmp es)) e (is_sorted-put name_cmp nat_list_cmp_total name branch (map entry_of ns) s) in
    (sorted, same_entries_map _ _ (entries-from_sorted name_cmp (map entry_of ms) sorted ∙ sym e ∙ sym (entries-insert nat_list_cmp_total (from_sorted (map entry_of ns)) name branch ∙ ap (put name_cmp name branch) (entries-from_sorted name_cmp (map entry_of ns) s))))

-- and as many keys as there are names
pub count_names : (ns : List NamedBranch) → T (is_sorted name_cmp (map entry_of ns)) → len (from_sorted {R = name_cmp} (map entry_of ns)) ≡ length ns
count_names ns s = len-entries (from_sorted (map entry_of ns)) ∙ ap length (entries-from_sorted name_cmp (map entry_of ns) s) ∙ length-map ns entry_of
