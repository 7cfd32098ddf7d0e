-- What a private table has of the changes that made it.
use Rattle.std.proofs.Common.{◌≡◌, ◌≢◌, ◌⊎◌, inl, inr, ℕ, zero, suc, ◌+◌, ◌<◌, ◌≤◌, ◌==◌, nat_lt, Bool, true, false, cond, ◌&&◌, ◌||◌, T, is_some, List, [], ◌∷◌, ◌++◌, map, length, set, replicate, get_or, Option, Some, None, Ordering, Less, Equal, Greater, refl, ap, sym, ◌∙◌, subst, arith}
use Rattle.std.specs.Ordering.{nat_cmp, is_lt, is_eq, eq_by_cmp}
use Rattle.std.proofs.lemmas.Cmp.{nat_cmp_total}
use Rattle.std.specs.List.{list_all}
use Rattle.std.proofs.lemmas.Bool.{and_parts, ltb-true, eqb-true, eq-eqb, cases_lt}
use Rattle.std.proofs.lemmas.Option.{none-some}
use Rattle.std.proofs.lemmas.List.{length-map, length-set, length-replicate, map-set, nil_from_length, get_or-set_other}
use Rattle.std.proofs.Math.ListN.{get_or-map}
use Rattle.std.specs.FinMap as finite
use Rattle.std.specs.FinMap.Entries.{find, is_sorted, below_all, put, by_order}
use Rattle.db_value.specs.Value.{Value}
use Rattle.db_value.specs.Schema.{most_relations}
use Rattle.db_value.specs.declared.entry.Change.{Change}
use Rattle.db_store.specs.Table.{Table, relation_at}
use Rattle.db_store.specs.Overlay.{Overlay, overlay_at, is_touched, count_touched, touch, untouched, over, laid, own_widths, change_of, changes_from}
use Rattle.db_store.specs.OverlayRules.{get_laid}
use Rattle.db_store.proofs.OverlayLemmas.{laid_touched}
use Rattle.branch_tx.specs.Keeping.{privately, over_table, is_among, with_key, keys_at, count_keys, state_in, states_from}
use Rattle.branch_tx.specs.Merging.{put_all}
use Rattle.branch_tx.specs.Laws.{keys_of, private_of}

abbrev pub State : Type 0
State = Option (List Value)

abbrev pub Entries : Type 0
Entries = List (ℕ × State)

abbrev keys : Entries → List ℕ
keys es = map (λ e. e.0) es

-- ---- keys

keys_put : (key : ℕ) (st : State) (es : Entries) → keys (put nat_cmp key st es) ≡ with_key key (keys es)
keys_put key st [] = refl
keys_put key st (e ∷ es) = elim (nat_lt key e.0) as (λ l. keys (by_order (cond l Less (cond (key == e.0) Equal Greater)) ((key, st) ∷ e ∷ es) ((e.0, st) ∷ es) (e ∷ put nat_cmp key st es)) ≡ cond l (key ∷ e.0 ∷ keys es) (cond (key == e.0) (e.0 ∷ keys es) (e.0 ∷ with_key key (keys es)))) [
  | true ↦ refl
  | false ↦ elim (key == e.0) as (λ q. keys (by_order (cond q Equal Greater) ((key, st) ∷ e ∷ es) ((e.0, st) ∷ es) (e ∷ put nat_cmp key st es)) ≡ cond q (e.0 ∷ keys es) (e.0 ∷ with_key key (keys es))) [
    | true ↦ refl
    | false ↦ ap (λ (ks : List ℕ). e.0 ∷ ks) (keys_put key st es)
  ]
]

-- the keys after one more is touched
keys_insert : (o : Overlay) (key : ℕ) (st : State) → keys_of (finite.insert o key st) ≡ with_key key (keys_of o)
keys_insert o key st = ap keys (finite.entries-insert nat_cmp_total o key st) ∙ keys_put key st (finite.entries o)

pub no_keys : keys_of finite.empty ≡ []
no_keys = nil_from_length (keys_of finite.empty) (length-map (finite.entries (finite.empty {X = State} {R = nat_cmp})) (λ e. e.0) ∙ sym (finite.len-entries finite.empty) ∙ finite.len-empty nat_cmp State)

-- the touched keys of a relation
keys_at_is : (t : Table) (os : List Overlay) (r : ℕ) → keys_at (private_of t os) r ≡ keys_of (overlay_at os r)
keys_at_is t os r = ap (get_or (map keys_of os) r) (sym no_keys) ∙ get_or-map keys_of os r finite.empty

same_key : (a b : ℕ) → eq_by_cmp nat_cmp a b ≡ (a == b)
same_key a b = by (nat_lt a b) (a == b) refl refl
  where
    by : (l q : Bool) → nat_lt a b ≡ l → (a == b) ≡ q → is_eq (cond l Less (cond q Equal Greater)) ≡ q
    by true true p e = let l = ltb-true a b p in let n = eqb-true a b e in absurd (omega arith)
    by true false p e = refl
    by false true p e = refl
    by false false p e = refl

among_is : (key : ℕ) (es : Entries) → is_among key (keys es) ≡ is_some (find nat_cmp key es)
among_is key [] = refl
among_is key (e ∷ es) = elim (key == e.0) as (λ q. eq_by_cmp nat_cmp key e.0 ≡ q → (q || is_among key (keys es)) ≡ is_some (cond (eq_by_cmp nat_cmp key e.0) (Some e.1) (find nat_cmp key es))) [
  | true ↦ λ p. ap (λ q. is_some (cond q (Some e.1) (find nat_cmp key es))) (sym p)
  | false ↦ λ p. among_is key es ∙ ap (λ q. is_some (cond q (Some e.1) (find nat_cmp key es))) (sym p)
] (same_key key e.0)

-- ---- what a private table says of its touched keys

-- a key is touched
pub touched_same : (t : Table) (os : List Overlay) (r key : ℕ) → privately.is_touched (private_of t os) r key ≡ is_touched os r key
touched_same t os r key = ap (is_among key) (keys_at_is t os r) ∙ among_is key (finite.entries (overlay_at os r)) ∙ ap is_some (sym (finite.get-entries (overlay_at os r) key))

-- how many are
pub touches_same : (os : List Overlay) → count_keys (map keys_of os) ≡ count_touched os
touches_same [] = refl
touches_same (o ∷ os) = ap (λ n. n + count_keys (map keys_of os)) (length-map (finite.entries o) (λ e. e.0) ∙ sym (finite.len-entries o)) ∙ ap (λ n. finite.len o + n) (touches_same os)

-- one key more
pub put_same : (t : Table) (os : List Overlay) (r key : ℕ) (st : State) → r < length t → r < length os → privately.put (private_of t os) r key st ≡ private_of t (touch os r key st)
put_same t os r key st h k =
    let e : set (map keys_of os) r (with_key key (keys_at (private_of t os) r)) ≡ map keys_of (touch os r key st) =
    ap (λ ks. set (map keys_of os) r (with_key key ks)) (keys_at_is t os r) ∙ ap (set (map keys_of os) r) (sym (keys_insert (overlay_at os r) key st)) ∙ sym (map-set keys_of os r (finite.insert (overlay_at os r) key st)) in
    let l = laid_touched t os r key st h k in
    λ i. record { table = sym l i; touched = e i }

-- ---- changes

pub first : (a b : Bool) → T (a && b) → T a
first true b h = tt
first false b h = h

pub second : (a b : Bool) → T (a && b) → T b
second true b h = h
second false b h = absurd h

none_below : (k : ℕ) (es : Entries) → T (below_all nat_cmp k es) → find nat_cmp k es ≡ None
none_below k [] h = refl
none_below k (e ∷ es) h = ap (λ (q : Bool). cond q (Some e.1) (find nat_cmp k es)) (apart (nat_cmp k e.0) (first (is_lt (nat_cmp k e.0)) _ h)) ∙ none_below k es (second (is_lt (nat_cmp k e.0)) _ h)
  where
    apart : (r : Ordering) → T (is_lt r) → is_eq r ≡ false
    apart Less h = refl
    apart Equal h = absurd h
    apart Greater h = absurd h

pub later_found : (e : ℕ × State) (es : Entries) (key : ℕ) (st : State) → T (below_all nat_cmp e.0 es) → find nat_cmp key es ≡ Some st → find nat_cmp key (e ∷ es) ≡ Some st
later_found e es key st h f = elim (key == e.0) as (λ q. (key == e.0) ≡ q → find nat_cmp key (e ∷ es) ≡ Some st) [
  | true ↦ λ p. absurd (none-some st (sym (none_below e.0 es h) ∙ ap (λ k. find nat_cmp k es) (sym (eqb-true key e.0 p)) ∙ f))
  | false ↦ λ p. ap (λ (q : Bool). cond q (Some e.1) (find nat_cmp key es)) (same_key key e.0 ∙ p) ∙ f
] refl

pub here_found : (e : ℕ × State) (es : Entries) → find nat_cmp e.0 (e ∷ es) ≡ Some e.1
here_found e es = ap (λ (q : Bool). cond q (Some e.1) (find nat_cmp e.0 es)) (same_key e.0 e.0 ∙ eq-eqb e.0 e.0 refl)

states_map : (ws : List ℕ) (t : Table) (n : ℕ) (es : Entries) → T (is_sorted nat_cmp es) → ((key : ℕ) (st : State) → find nat_cmp key es ≡ Some st → finite.get (relation_at t n) key ≡ st) → map (state_in ws t n) (keys es) ≡ map (change_of ws n) es
states_map ws t n [] h f = refl
states_map ws t n (e ∷ es) h f =
    let below = first (below_all nat_cmp e.0 es) (is_sorted nat_cmp es) h in
    let here = ap (λ st. change_of ws n (e.0, st)) (f e.0 e.1 (here_found e es)) in
    let later = states_map ws t n es (second (below_all nat_cmp e.0 es) (is_sorted nat_cmp es) h) (λ key st g. f key st (later_found e es key st below g)) in
    λ i. here i ∷ later i

states_are : (wss : List (List ℕ)) (t : Table) (n : ℕ) (os : List Overlay) → ((r key : ℕ) (st : State) → finite.get (overlay_at os r) key ≡ Some st → finite.get (relation_at t (n + r)) key ≡ st) → states_from wss t n (map keys_of os) ≡ changes_from wss n os
states_are wss t n [] f = refl
states_are wss t n (o ∷ os) f =
    let zero : n + 0 ≡ n = omega arith in
    let here = states_map (own_widths wss n) t n (finite.entries o) (finite.entries_sorted o) (λ key st g. subst (λ k. finite.get (relation_at t k) key ≡ st) zero (f 0 key st (finite.get-entries o key ∙ g))) in
    let later = states_are wss t (n + 1) os (λ r key st g. let e : n + suc r ≡ (n + 1) + r = omega arith in subst (λ k. finite.get (relation_at t k) key ≡ st) e (f (suc r) key st g)) in
    λ i. here i ++ later i

-- relations that the table lacks have no touched key
abbrev pub IsIn : Table → List Overlay → Type 0
IsIn t os = (r key : ℕ) → length t ≤ r → finite.get (overlay_at os r) key ≡ None

pub changes_same : (wss : List (List ℕ)) (t : Table) (os : List Overlay) → IsIn t os → privately.changes wss (private_of t os) ≡ changes_from wss 0 os
changes_same wss t os h = states_are wss (laid t os) 0 os (λ r key st g. there r key st g (cases_lt r (length t)))
  where
    there : (r key : ℕ) (st : State) → finite.get (overlay_at os r) key ≡ Some st → (r < length t) ⊎ (length t ≤ r) → finite.get (relation_at (laid t os) (0 + r)) key ≡ st
    there r key st g (inl l) =
        let e : r ≡ 0 + r = omega arith in
        subst (λ k. finite.get (relation_at (laid t os) k) key ≡ st) e (get_laid t os r key l ∙ ap (λ (c : Option State). over c (finite.get (relation_at t r) key)) g)
    there r key st g (inr l) = absurd (none-some st (sym (h r key l) ∙ g))

-- ---- the work of a transaction

-- an overlay for each relation that there can be, and no touched key of a relation that the table lacks
pub record IsWork (t : Table) (os : List Overlay) : Type 0 where
  pub wide : length os ≡ most_relations
  pub inside : IsIn t os

empties : (n r : ℕ) → get_or (replicate n (finite.empty {X = State} {R = nat_cmp})) r finite.empty ≡ finite.empty
empties zero r = refl
empties (suc n) zero = refl
empties (suc n) (suc r) = empties n r

pub work_untouched : (t : Table) → IsWork t untouched
work_untouched t = record {
  wide = length-replicate most_relations (finite.empty {X = State} {R = nat_cmp});
  inside = λ r key h. ap (λ (o : Overlay). finite.get o key) (empties most_relations r) ∙ finite.get-empty nat_cmp key;
}

pub work_touched : (t : Table) (os : List Overlay) (r key : ℕ) (st : State) → r < length t → IsWork t os → IsWork t (touch os r key st)
work_touched t os r key st h w = record {
  wide = length-set os r (finite.insert (overlay_at os r) key st) ∙ w.wide;
  inside = λ j other l.
      let apart : j ≢ r = λ e. omega (arith, e, l, h) in
      ap (λ (o : Overlay). finite.get o other) (get_or-set_other os r j (finite.insert (overlay_at os r) key st) finite.empty apart) ∙ w.inside j other l;
}

pub work_all : (t : Table) (os : List Overlay) (cs : List Change) → list_all (λ c. nat_lt c.relation (length t)) cs ≡ true → IsWork t os → IsWork t (put_all (over_table t) os cs)
work_all t os [] h w = w
work_all t os (c ∷ cs) h w =
    let two = and_parts (nat_lt c.relation (length t)) (list_all (λ c. nat_lt c.relation (length t)) cs) h in
    work_all t (touch os c.relation c.key c.fields) cs two.1 (work_touched t os c.relation c.key c.fields (ltb-true c.relation (length t) two.0) w)
