-- Where a name stands among those that were lent, and a map of places.
use Rattle.std.proofs.Common.{◌≡◌, ◌==◌, ◌&&◌, ◌<◌, ℕ, suc, Bool, true, false, cond, List, [], ◌∷◌, ◌++◌, length, map, get_or, Option, Some, None, Ordering, Less, Equal, Greater, refl, ap, sym, subst, ◌∙◌, arith}
use Rattle.std.specs.Prelude.{is_some}
use Rattle.std.proofs.lemmas.Bool.{eqb-true, eqb-false, false≢true}
use Rattle.std.specs.Ordering.{nat_cmp, ordering_then, is_eq}
use Rattle.std.specs.Option.{option_cmp, option_eq}
use Rattle.std.specs.Cmp.{unsigned_ties}
use Rattle.std.specs.Cmp.Lexicographic.{slice_cmp, texts_ties}
use Rattle.std.specs.BTreeMap.{BTreeMap, get, is_at}
use Rattle.db_value.specs.declared.version.VersionName.{VersionName}
use Rattle.db_store.specs.Table.{Table}
use Rattle.db_store.specs.Touched.{one_further}
use Rattle.branch_tx.specs.declared.key.NameKey.{NameKey}
use Rattle.branch_tx.specs.Granted.{same_position, same_version, lent_table}
use Rattle.branch_tx.specs.Lending.{key_cmp, place_of, ArePlaces}
use Rattle.branch_tx.proofs.Spellings.{version_is, same_name}

-- ---- keys

both_equal : (a b : Ordering) → is_eq (ordering_then a b) ≡ (is_eq a && is_eq b)
both_equal Less b = refl
both_equal Equal b = refl
both_equal Greater b = refl

position_ties : (p q : Option ℕ) → is_eq (option_cmp nat_cmp p q) ≡ same_position p q
position_ties None None = refl
position_ties None (Some m) = refl
position_ties (Some n) None = refl
position_ties (Some n) (Some m) = sym (unsigned_ties n m)

-- keys compare as equal where the names are spelled alike
pub same_key : (a b : NameKey) → is_eq (key_cmp a b) ≡ same_version a.name b.name
same_key a b =
    let names = sym (texts_ties a.name.branch b.name.branch) in
    let places = position_ties a.name.position b.name.position in
    both_equal (slice_cmp nat_cmp a.name.branch b.name.branch) (option_cmp nat_cmp a.name.position b.name.position) ∙ (λ i. names i && places i)

-- ---- one name more

abbrev or_else : Option ℕ → Option ℕ → Option ℕ
or_else None p = p
or_else (Some i) p = Some i

or_none : (o : Option ℕ) → or_else o None ≡ o
or_none None = refl
or_none (Some i) = refl

further : (b q : Bool) (o : Option ℕ) (n : ℕ) → cond b (Some 0) (one_further (or_else o (cond q (Some n) None))) ≡ or_else (cond b (Some 0) (one_further o)) (cond q (Some (suc n)) None)
further true q o n = refl
further false q (Some i) n = refl
further false true None n = refl
further false false None n = refl

-- a name behind others stands last, unless one of them is the same
place_end : (ns : List VersionName) (n v : VersionName) → place_of v (ns ++ n ∷ []) ≡ or_else (place_of v ns) (cond (same_version n v) (Some (length ns)) None)
place_end [] n v = refl
place_end (u ∷ us) n v = ap (λ o. cond (same_version u v) (Some 0) (one_further o)) (place_end us n v) ∙ further (same_version u v) (same_version n v) (place_of v us) (length us)

old_by : (ns : List VersionName) (n v : VersionName) (i : ℕ) (q : Bool) → same_version n v ≡ q → place_of n ns ≡ Some i → or_else (place_of v ns) (cond q (Some (length ns)) None) ≡ place_of v ns
old_by ns n v i true s e =
    let at : place_of v ns ≡ Some i = ap (λ (u : VersionName). place_of u ns) (sym (version_is n v s)) ∙ e in
    ap (λ o. or_else o (Some (length ns))) at ∙ sym at
old_by ns n v i false s e = or_none (place_of v ns)

-- all names stand where they stood
pub old_name : (ns : List VersionName) (n v : VersionName) (i : ℕ) → place_of n ns ≡ Some i → place_of v (ns ++ n ∷ []) ≡ place_of v ns
old_name ns n v i e = place_end ns n v ∙ old_by ns n v i (same_version n v) refl e

new_by : (ns : List VersionName) (n v : VersionName) (q : Bool) → same_version n v ≡ q → place_of n ns ≡ None → or_else (place_of v ns) (cond q (Some (length ns)) None) ≡ cond q (Some (length ns)) (place_of v ns)
new_by ns n v true s e = ap (λ o. or_else o (Some (length ns))) (ap (λ (u : VersionName). place_of u ns) (sym (version_is n v s)) ∙ e)
new_by ns n v false s e = or_none (place_of v ns)

-- a new name stands last
pub new_name : (ns : List VersionName) (n v : VersionName) → place_of n ns ≡ None → place_of v (ns ++ n ∷ []) ≡ cond (same_version n v) (Some (length ns)) (place_of v ns)
new_name ns n v e = place_end ns n v ∙ new_by ns n v (same_version n v) refl e

gone_by : (ns : List VersionName) (n v : VersionName) (q : Bool) → same_version n v ≡ q → place_of n ns ≡ None → cond q None (cond q (Some (length ns)) (place_of v ns)) ≡ place_of v ns
gone_by ns n v true s e = sym (ap (λ (u : VersionName). place_of u ns) (sym (version_is n v s)) ∙ e)
gone_by ns n v false s e = refl

-- without it the others stand where they stood
gone : (ns : List VersionName) (n v : VersionName) → place_of n ns ≡ None → cond (same_version n v) None (place_of v (ns ++ n ∷ [])) ≡ place_of v ns
gone ns n v e = ap (cond (same_version n v) None) (new_name ns n v e) ∙ gone_by ns n v (same_version n v) refl e

-- ---- what stands at a place

-- the first version with a name is the one at its place
found_by : {L : Type 0} (name : L → VersionName) (table : L → Table) (l d : L) (ls : List L) (v : VersionName) (i : ℕ) (q : Bool) (o : Option ℕ)
    → ((j : ℕ) → o ≡ Some j → (j < length ls) × (lent_table (map (λ x. (name x, table x)) ls) v ≡ Some (table (get_or ls j d))))
    → cond q (Some 0) (one_further o) ≡ Some i → (i < suc (length ls)) × (cond q (Some (table l)) (lent_table (map (λ x. (name x, table x)) ls) v) ≡ Some (table (get_or (l ∷ ls) i d)))
found_by name table l d ls v i true o f e = let z : 0 ≡ i = cc in rw (← z) (omega arith, refl)
found_by name table l d ls v i false None f e = absurd cc
found_by name table l d ls v i false (Some j) f e =
    let s : suc j ≡ i = cc in
    let two = f j refl in
    rw (← s) (omega (arith, two.0), two.1)

pub found_at : {L : Type 0} (name : L → VersionName) (table : L → Table) (ls : List L) (v : VersionName) (i : ℕ) (d : L) → place_of v (map name ls) ≡ Some i
    → (i < length ls) × (lent_table (map (λ x. (name x, table x)) ls) v ≡ Some (table (get_or ls i d)))
found_at name table [] v i d e = absurd cc
found_at name table (l ∷ ls) v i d e = found_by name table l d ls v i (same_version (name l) v) (place_of v (map name ls)) (λ j h. found_at name table ls v j d h) e

pub none_there : {A : Type 0} (o : Option A) → is_some o ≡ false → o ≡ None
none_there None e = refl
none_there (Some x) e = absurd (false≢true (sym e))

-- there is one exactly where its name has a place
there_by : (q : Bool) (t : Table) (p : Option Table) (o : Option ℕ) → is_some o ≡ is_some p → is_some (cond q (Some 0) (one_further o)) ≡ is_some (cond q (Some t) p)
there_by true t p o e = refl
there_by false t p None e = e
there_by false t p (Some i) e = e

pub there_at : {L : Type 0} (name : L → VersionName) (table : L → Table) (ls : List L) (v : VersionName) → is_some (place_of v (map name ls)) ≡ is_some (lent_table (map (λ x. (name x, table x)) ls) v)
there_at name table [] v = refl
there_at name table (l ∷ ls) v = there_by (same_version (name l) v) (table l) (lent_table (map (λ x. (name x, table x)) ls) v) (place_of v (map name ls)) (there_at name table ls v)

pub none_at : {L : Type 0} (name : L → VersionName) (table : L → Table) (ls : List L) (v : VersionName) → place_of v (map name ls) ≡ None → lent_table (map (λ x. (name x, table x)) ls) v ≡ None
none_at name table ls v e = none_there (lent_table (map (λ x. (name x, table x)) ls) v) (sym (there_at name table ls v) ∙ ap is_some e)

place_within : (ns : List VersionName) (v : VersionName) (i : ℕ) (q : Bool) (o : Option ℕ) → ((j : ℕ) → o ≡ Some j → j < length ns) → cond q (Some 0) (one_further o) ≡ Some i → i < suc (length ns)
place_within ns v i true o f e = let z : 0 ≡ i = cc in omega (arith, z)
place_within ns v i false None f e = absurd cc
place_within ns v i false (Some j) f e = let s : suc j ≡ i = cc in omega (arith, s, f j refl)

pub within : (ns : List VersionName) (v : VersionName) (i : ℕ) → place_of v ns ≡ Some i → i < length ns
within [] v i e = absurd cc
within (n ∷ ns) v i e = place_within ns v i (same_version n v) (place_of v ns) (λ j h. within ns v j h) e

-- ---- the map of places

-- a number that equals some one is that one
pub option_is : (o : Option ℕ) (n : ℕ) → option_eq ◌==◌ o (Some n) ≡ true → o ≡ Some n
option_is None n e = absurd (false≢true e)
option_is (Some i) n e = ap Some (eqb-true i n e)

pub option_not : (o : Option ℕ) (n : ℕ) → option_eq ◌==◌ o (Some n) ≡ false → o ≡ Some n → ⊥
option_not None n e h = absurd cc
option_not (Some i) n e h = let same : i ≡ n = cc in eqb-false i n e same

-- it stays for a name that is there
some_place : (ns : List VersionName) (n v : VersionName) (o : Option ℕ) → place_of n ns ≡ o → is_some o ≡ true → place_of v (ns ++ n ∷ []) ≡ place_of v ns
some_place ns n v None p e = absurd (false≢true e)
some_place ns n v (Some i) p e = old_name ns n v i p

pub places_stay : (ns : List VersionName) (n : VersionName) (k : NameKey) (places : BTreeMap NameKey ℕ) → k ≡ record { name = n } → is_some (get key_cmp places k) ≡ true → ArePlaces ns places → ArePlaces (ns ++ n ∷ []) places
places_stay ns n k places is e a v =
    let there : is_some (get key_cmp places (record { name = n })) ≡ true = subst (λ (q : NameKey). is_some (get key_cmp places q) ≡ true) is e in
    a v ∙ sym (some_place ns n v (place_of n ns) refl (ap is_some (sym (a n)) ∙ there))

-- and gets the place of a new one
pub places_more : (ns : List VersionName) (n : VersionName) (k : NameKey) (old new : BTreeMap NameKey ℕ) (place : ℕ) → k ≡ record { name = n } → place ≡ length ns → get key_cmp old k ≡ None → ArePlaces ns old
    → ((q : NameKey) → get key_cmp new q ≡ cond (is_at (key_cmp k) q) (Some place) (get key_cmp old q)) → ArePlaces (ns ++ n ∷ []) new
places_more ns n k old new place is at e a u v =
    let w : NameKey = record { name = v } in
    let none : get key_cmp old (record { name = n }) ≡ None = subst (λ (q : NameKey). get key_cmp old q ≡ None) is e in
    u w
    ∙ ap (λ (q : Bool). cond q (Some place) (get key_cmp old w)) (same_key k w ∙ ap (λ (q : NameKey). same_version q.name v) is)
    ∙ ap (λ (i : ℕ). cond (same_version n v) (Some i) (get key_cmp old w)) at
    ∙ ap (cond (same_version n v) (Some (length ns))) (a v)
    ∙ sym (new_name ns n v (sym (a n) ∙ none))

-- whether the last of several names stands last is whether none of the others is the same
last_is : (ns : List VersionName) (n : VersionName) (o : Option ℕ) → place_of n ns ≡ o → place_of n (ns ++ n ∷ []) ≡ Some (length ns) → place_of n ns ≡ None
last_is ns n None p e = p
last_is ns n (Some i) p e =
    let both : Some i ≡ Some (length ns) = sym p ∙ sym (old_name ns n n i p) ∙ e in
    let last : i ≡ length ns = cc in
    absurd (omega (arith, last, within ns n i p))

last_not : (ns : List VersionName) (n v : VersionName) (o : Option ℕ) → place_of n ns ≡ o → (place_of n (ns ++ n ∷ []) ≡ Some (length ns) → ⊥) → place_of v (ns ++ n ∷ []) ≡ place_of v ns
last_not ns n v None p e = absurd (e (new_name ns n n p ∙ ap (λ q. cond q (Some (length ns)) (place_of n ns)) (same_name n)))
last_not ns n v (Some i) p e = old_name ns n v i p

-- it loses the last place with the name that stands there
pub places_less : (ns : List VersionName) (n : VersionName) (k : NameKey) (old new : BTreeMap NameKey ℕ) (place : ℕ) → k ≡ record { name = n } → place ≡ length ns → get key_cmp old k ≡ Some place → ArePlaces (ns ++ n ∷ []) old
    → ((q : NameKey) → get key_cmp new q ≡ cond (is_at (key_cmp k) q) None (get key_cmp old q)) → ArePlaces ns new
places_less ns n k old new place is at e a u v =
    let w : NameKey = record { name = v } in
    let last : get key_cmp old (record { name = n }) ≡ Some place = subst (λ (q : NameKey). get key_cmp old q ≡ Some place) is e in
    u w
    ∙ ap (λ (q : Bool). cond q None (get key_cmp old w)) (same_key k w ∙ ap (λ (q : NameKey). same_version q.name v) is)
    ∙ ap (cond (same_version n v) None) (a v)
    ∙ gone ns n v (last_is ns n (place_of n ns) refl (sym (a n) ∙ last ∙ ap Some at))

-- and else stays
pub places_kept : (ns : List VersionName) (n : VersionName) (k : NameKey) (places : BTreeMap NameKey ℕ) (place : ℕ) → k ≡ record { name = n } → place ≡ length ns → (get key_cmp places k ≡ Some place → ⊥) → ArePlaces (ns ++ n ∷ []) places → ArePlaces ns places
places_kept ns n k places place is at e a v =
    a v ∙ last_not ns n v (place_of n ns) refl (λ h. e (ap (get key_cmp places) is ∙ a n ∙ h ∙ ap Some (sym at)))
