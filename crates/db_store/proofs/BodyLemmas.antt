-- How many bytes the changes of overlays have, and what a touch makes of them.
use Rattle.std.proofs.Common.{◌≡◌, ◌⊎◌, inl, inr, ℕ, zero, suc, ◌+◌, ◌-◌, ◌*◌, ◌/◌, ◌^◌, ◌<◌, ◌≤◌, ◌==◌, Bool, true, false, cond, ◌&&◌, ◌||◌, not, nat_lt, nat_le, T, is_some, List, [], ◌∷◌, ◌++◌, map, length, set, drop, Option, Some, None, Ordering, Less, Equal, Greater, refl, ap, sym, ◌∙◌, subst, arith, add-zero}
use Rattle.std.specs.List.{list_all, list_any}
use Rattle.std.specs.Ordering.{nat_cmp, is_lt, is_eq, eq_by_cmp}
use Rattle.std.specs.Cmp.{ranked}
use Rattle.std.proofs.lemmas.Cmp.{nat_cmp_total}
use Rattle.std.proofs.lemmas.Bool.{and_parts, and_from, not-true, lt-ltb, ltb-true, le-leb, leb-true, ne_eqb, cases_lt, false≢true}
use Rattle.std.proofs.lemmas.List.{length-set, drop_more}
use Rattle.std.proofs.lemmas.Nat.{mul-le}
use Rattle.std.proofs.Math.Nat.{div-mul-le_self}
use Rattle.std.specs.FinMap as finite
use Rattle.std.specs.FinMap.Entries.{find, put, by_order, is_sorted, below_all}
use Rattle.db_value.specs.Value.{Value}
use Rattle.db_value.specs.RowForm.{row_size}
use Rattle.db_value.specs.PackedChanges.{change_here}
use Rattle.db_value.specs.Relations.{widths_at}
use Rattle.db_value.proofs.Same.{bytes_is}
use Rattle.db_value.specs.declared.schema.Relation.{Relation}
use Rattle.db_value.specs.declared.version.VersionPlace.{VersionPlace}
use Rattle.db_value.specs.declared.entry.Change.{Change}
use Rattle.work_region.specs.declared.rows.RowFrame.{RowFrame as Touch}
use Rattle.db_store.specs.declared.bulk.Bulk.{Bulk}
use Rattle.db_store.specs.Touched.{state_of}
use Rattle.db_store.specs.Fits.{has_fields, has_widths, change_fits}
use Rattle.db_store.specs.RowWidths.{all_widths, most_of, most_from}
use Rattle.db_store.specs.Body.{any_of_texts, have_texts, has_text, any_text, wide_size, form_size, fields_size, change_size, changes_size, second_size, commit_size, most_entry}
use Rattle.db_store.specs.Bulk.{text_count, bulk_of, no_bulk, weight, weight_at, exchanged, size_in, with_own}
use Rattle.db_store.specs.Overlay.{Overlay, untouched, overlay_at, is_touched, count_touched, touch, own_widths, widths_if, change_of, changes_in, changes_from}
use Rattle.db_store.specs.OverlayRules.{two_true, less_is}
use Rattle.db_store.specs.TouchRules.{same_key}
use Rattle.db_store.specs.Adopt.{is_of_key, keys_differ, touched_by}
use Rattle.db_store.proofs.OverlayLemmas.{count_untouched, count_touch, length_changes}
use Rattle.db_store.proofs.WidthLemmas.{most_more, most_here, widths_here}
use Rattle.db_store.proofs.AdoptLemmas.{AreFresh, fresh_untouched, fresh_after, touch_length, next_change}

-- the sum of a number that each change has by its widths
abbrev pub weigh : (Option (List ℕ) → ℕ) → List Change → ℕ
weigh h [] = 0
weigh h (c ∷ cs) = h c.widths + weigh h cs

-- how many bytes a change has, and whether it has a text
abbrev pub size_by : Bool → Option (List ℕ) → ℕ
size_by wide ws = 10 + fields_size wide ws

abbrev pub text_by : Option (List ℕ) → ℕ
text_by ws = cond (have_texts ws) 1 0

pub size_is : (wide : Bool) (cs : List Change) → changes_size wide cs ≡ weigh (size_by wide) cs
size_is wide [] = refl
size_is wide (c ∷ cs) = ap (λ n. change_size wide c + n) (size_is wide cs)

pub texts_are : (cs : List Change) → text_count cs ≡ weigh text_by cs
texts_are [] = refl
texts_are (c ∷ cs) = ap (λ n. text_by c.widths + n) (texts_are cs)

pub weigh_then : (h : Option (List ℕ) → ℕ) (cs ds : List Change) → weigh h (cs ++ ds) ≡ weigh h cs + weigh h ds
weigh_then h [] ds = omega arith
weigh_then h (c ∷ cs) ds = let e = weigh_then h cs ds in omega (arith, e)

-- ---- the form of an entry

some_text : (b : Bool) (n : ℕ) → (b || nat_lt 0 n) ≡ nat_lt 0 (cond b 1 0 + n)
some_text true n = sym (lt-ltb 0 (1 + n) (omega arith))
some_text false n = let same : n ≡ 0 + n = omega arith in ap (λ m. nat_lt 0 m) same

-- a change has a text where their count isn't 0
pub any_is : (cs : List Change) → any_text cs ≡ nat_lt 0 (text_count cs)
any_is [] = refl
any_is (c ∷ cs) = ap (λ (b : Bool). has_text c || b) (any_is cs) ∙ some_text (has_text c) (text_count cs)

by_form : (b : Bool) (cs : List Change) → changes_size b cs ≡ cond b (changes_size true cs) (changes_size false cs)
by_form true cs = refl
by_form false cs = refl

-- the bytes of changes are those of their bulk
pub size_bulk : (cs : List Change) → changes_size (any_text cs) cs ≡ size_in (bulk_of cs)
size_bulk cs = by_form (any_text cs) cs ∙ ap (λ (b : Bool). cond b (changes_size true cs) (changes_size false cs)) (any_is cs)

pub commit_bulk : (second : Option VersionPlace) (cs : List Change) → commit_size second cs ≡ 9 + second_size second + size_in (bulk_of cs)
commit_bulk second cs = ap (λ n. 9 + second_size second + n) (size_bulk cs)

-- ---- bounds

-- changes of so many keys, of which none has more than this
module _ (h : Option (List ℕ) → ℕ) (most : ℕ) where
  entries_bound : (ws : List ℕ) (n : ℕ) (es : List (ℕ × Option (List Value))) → h (Some ws) ≤ most → h None ≤ most → weigh h (map (change_of ws n) es) ≤ length es * most
  entries_bound ws n [] s d = omega arith
  entries_bound ws n (e ∷ es) s d =
      let rest = entries_bound ws n es s d in
      let one : h (widths_if ws e.1) ≤ most = state e.1 in
      omega (arith, rest, one)
    where
      state : (st : Option (List Value)) → h (widths_if ws st) ≤ most
      state None = d
      state (Some fields) = s

  pub weigh_bound : (wss : List (List ℕ)) (n : ℕ) (os : List Overlay) → ((r : ℕ) → h (Some (own_widths wss r)) ≤ most) → h None ≤ most → weigh h (changes_from wss n os) ≤ count_touched os * most
  weigh_bound wss n [] s d = omega arith
  weigh_bound wss n (o ∷ os) s d =
      let one = entries_bound (own_widths wss n) n (finite.entries o) (s n) d in
      let rest = weigh_bound wss (n + 1) os s d in
      let both = weigh_then h (changes_in (own_widths wss n) n o) (changes_from wss (n + 1) os) in
      let first : weigh h (changes_in (own_widths wss n) n o) ≤ finite.len o * most = subst (λ k. weigh h (changes_in (own_widths wss n) n o) ≤ k * most) (sym (finite.len-entries o)) one in
      omega (arith, first, rest, both)

-- the bytes with widths are those of the fields and one for each
pub wide_is : (ws : List ℕ) → wide_size ws ≡ length ws + row_size ws
wide_is [] = refl
wide_is (w ∷ ws) = let e = wide_is ws in omega (arith, e)

form_most : (wide : Bool) (ws : List ℕ) → form_size wide ws + 1 ≤ most_of ws
form_most false ws = omega arith
form_most true ws = let e = wide_is ws in omega (arith, e)

most_own : (wss : List (List ℕ)) (r : ℕ) → most_of (own_widths wss r) ≤ most_from 10 wss
most_own wss r = by (cases_lt r (length wss))
  where
    none : (wss : List (List ℕ)) (r : ℕ) → length wss ≤ r → own_widths wss r ≡ []
    none [] r h = refl
    none (ws ∷ wss) zero h = absurd (omega (arith, h))
    none (ws ∷ wss) (suc r) h = none wss r (omega (arith, h))

    by : (r < length wss) ⊎ (length wss ≤ r) → most_of (own_widths wss r) ≤ most_from 10 wss
    by (inl h) = most_here 10 r wss h
    by (inr h) = let e = ap most_of (none wss r h) in let m = most_more 10 wss in omega (arith, e, m)

pub size_most : (wide : Bool) (wss : List (List ℕ)) (r : ℕ) → size_by wide (Some (own_widths wss r)) ≤ 9 + most_from 10 wss
size_most wide wss r = let a = form_most wide (own_widths wss r) in let b = most_own wss r in omega (arith, a, b)

none_most : (wide : Bool) (wss : List (List ℕ)) → size_by wide None ≤ 9 + most_from 10 wss
none_most wide wss = let m = most_more 10 wss in omega (arith, m)

-- how many bytes the changes have at most
pub changes_most : (wide : Bool) (wss : List (List ℕ)) (os : List Overlay) → changes_size wide (changes_from wss 0 os) ≤ count_touched os * (9 + most_from 10 wss)
changes_most wide wss os =
    subst (λ n. n ≤ count_touched os * (9 + most_from 10 wss)) (sym (size_is wide (changes_from wss 0 os)))
    (weigh_bound (size_by wide) (9 + most_from 10 wss) wss 0 os (size_most wide wss) (none_most wide wss))

pub texts_most : (wss : List (List ℕ)) (os : List Overlay) → text_count (changes_from wss 0 os) ≤ count_touched os
texts_most wss os =
    let bound = weigh_bound text_by 1 wss 0 os (λ r. one (any_of_texts (own_widths wss r))) (omega arith) in
    let e = texts_are (changes_from wss 0 os) in
    omega (arith, bound, e)
  where
    one : (b : Bool) → cond b 1 0 ≤ 1
    one true = omega arith
    one false = omega arith

-- and none of the numbers is large
pub record IsSmall (t : Bulk) : Type 0 where
  pub plain : t.plain < 2 ^ 62
  pub wide : t.wide < 2 ^ 62
  pub texts : t.texts < 2 ^ 62

pub bulk_small : (wss : List (List ℕ)) (os : List Overlay) (room : ℕ) → count_touched os ≤ room → room < 2 ^ 32 → most_from 10 wss < 2 ^ 16 → IsSmall (bulk_of (changes_from wss 0 os))
bulk_small wss os room few wide small =
    let product = mul-le (count_touched os) (9 + most_from 10 wss) (2 ^ 32) (2 ^ 17) (omega (arith, few, wide)) (omega (arith, small)) in
    let a = changes_most false wss os in
    let b = changes_most true wss os in
    let c = texts_most wss os in
    record { plain = omega (arith, a, product); wide = omega (arith, b, product); texts = omega (arith, c, few, wide) }

pub second_most : (second : Option VersionPlace) → second_size second ≤ 9
second_most None = omega arith
second_most (Some at) = omega arith

-- so few keys have so few bytes
pub sure_enough : (room most : ℕ) → nat_le room ((16777216 - 18) / (9 + most)) ≡ true → 18 + room * (9 + most) ≤ most_entry
sure_enough room most e =
    let le = leb-true room ((16777216 - 18) / (9 + most)) e in
    let product = mul-le room (9 + most) ((16777216 - 18) / (9 + most)) (9 + most) le (omega arith) in
    let whole = div-mul-le_self (16777216 - 18) (9 + most) in
    omega (arith, product, whole)

-- how many keys are touched after a touch for which there is room
pub count_after : (os : List Overlay) (r key : ℕ) (st : Option (List Value)) (room : ℕ) → r < length os → count_touched os ≤ room → (is_touched os r key || nat_lt (count_touched os) room) ≡ true → count_touched (touch os r key st) ≤ room
count_after os r key st room l few h = by (is_touched os r key) (nat_lt (count_touched os) room) refl h (count_touch os r key st l)
  where
    by : (b q : Bool) → nat_lt (count_touched os) room ≡ q → (b || q) ≡ true → count_touched (touch os r key st) ≡ cond b (count_touched os) (count_touched os + 1) → count_touched (touch os r key st) ≤ room
    by true q e h is = omega (arith, is, few)
    by false true e h is = let less = ltb-true (count_touched os) room e in omega (arith, is, less)
    by false false e h is = absurd (false≢true h)

-- an entry takes the changes of so few keys
pub sure_short : (second : Option VersionPlace) (wss : List (List ℕ)) (os : List Overlay) (room most : ℕ) → most ≡ most_from 10 wss → count_touched os ≤ room → 18 + room * (9 + most) ≤ most_entry → commit_size second (changes_from wss 0 os) ≤ most_entry
sure_short second wss os room most is few enough =
    let a = changes_most (any_text (changes_from wss 0 os)) wss os in
    let b = mul-le (count_touched os) (9 + most_from 10 wss) room (9 + most) few (omega (arith, is)) in
    let c = second_most second in
    omega (arith, a, b, c, enough)

-- ---- a touch

-- what a state had, and nothing where the key was not touched
abbrev pub had : (Option (List ℕ) → ℕ) → List ℕ → Option (Option (List Value)) → ℕ
had h ws None = 0
had h ws (Some st) = h (widths_if ws st)

-- a sum with one of its parts, and with another in the place of this
pub record Exchanges (old new x y : ℕ) : Type 0 where
  pub rest : ℕ
  pub before : x ≡ rest + old
  pub after : y ≡ rest + new

more_rest : (n old new x y : ℕ) → Exchanges old new x y → Exchanges old new (n + x) (n + y)
more_rest n old new x y e = let b = e.before in let a = e.after in record { rest = n + e.rest; before = omega (arith, b); after = omega (arith, a) }

rest_more : (n old new x y : ℕ) → Exchanges old new x y → Exchanges old new (x + n) (y + n)
rest_more n old new x y e = let b = e.before in let a = e.after in record { rest = n + e.rest; before = omega (arith, b); after = omega (arith, a) }

-- no key is below all of these and among them
none_under : {X : Type 0} (k x : ℕ) (es : List (ℕ × X)) → k < x → T (below_all nat_cmp x es) → find nat_cmp k es ≡ None
none_under k x [] h s = refl
none_under k x (e ∷ es) h s =
    let two : T (is_lt (nat_cmp x e.0)) × T (below_all nat_cmp x es) = two_true _ _ s in
    let less : x < e.0 = ranked x e.0 Less (less_is (nat_cmp x e.0) two.0) in
    ap (λ (b : Bool). cond b (Some e.1) (find nat_cmp k es)) (same_key k e.0 ∙ ne_eqb k e.0 (λ q. omega (arith, h, less, q))) ∙ none_under k x es h two.1

module _ (h : Option (List ℕ) → ℕ) (ws : List ℕ) (n : ℕ) (k : ℕ) (st : Option (List Value)) where
  put_entries : (es : List (ℕ × Option (List Value))) → T (is_sorted nat_cmp es) → Exchanges (had h ws (find nat_cmp k es)) (h (widths_if ws st)) (weigh h (map (change_of ws n) es)) (weigh h (map (change_of ws n) (put nat_cmp k st es)))
  put_entries [] s = record { rest = 0; before = refl; after = omega arith }
  put_entries (e ∷ es) s = by (put_entries es (two_true (below_all nat_cmp e.0 es) (is_sorted nat_cmp es) s).1) (nat_cmp k e.0) refl
    where
      two : T (below_all nat_cmp e.0 es) × T (is_sorted nat_cmp es)
      two = two_true _ _ s

      by : Exchanges (had h ws (find nat_cmp k es)) (h (widths_if ws st)) (weigh h (map (change_of ws n) es)) (weigh h (map (change_of ws n) (put nat_cmp k st es)))
          → (r : Ordering) → nat_cmp k e.0 ≡ r → Exchanges (had h ws (cond (is_eq r) (Some e.1) (find nat_cmp k es))) (h (widths_if ws st)) (weigh h (map (change_of ws n) (e ∷ es))) (weigh h (map (change_of ws n) (by_order r ((k, st) ∷ e ∷ es) ((e.0, st) ∷ es) (e ∷ put nat_cmp k st es))))
      by later Less q =
          let none : had h ws (find nat_cmp k es) ≡ 0 = ap (had h ws) (none_under k e.0 es (ranked k e.0 Less (sym q)) two.0) in
          record { rest = weigh h (map (change_of ws n) (e ∷ es)); before = omega (arith, none); after = omega arith }
      by later Equal q = record { rest = weigh h (map (change_of ws n) es); before = omega arith; after = omega arith }
      by later Greater q = more_rest (h (widths_if ws e.1)) _ _ _ _ later

-- the changes of a relation after a touch of it
touched_in : (h : Option (List ℕ) → ℕ) (ws : List ℕ) (n k : ℕ) (st : Option (List Value)) (o : Overlay) → Exchanges (had h ws (finite.get o k)) (h (widths_if ws st)) (weigh h (changes_in ws n o)) (weigh h (changes_in ws n (finite.insert o k st)))
touched_in h ws n k st o =
    subst (λ (es : List (ℕ × Option (List Value))). Exchanges (had h ws (finite.get o k)) (h (widths_if ws st)) (weigh h (changes_in ws n o)) (weigh h (map (change_of ws n) es))) (sym (finite.entries-insert nat_cmp_total o k st))
    (subst (λ (was : Option (Option (List Value))). Exchanges (had h ws was) (h (widths_if ws st)) (weigh h (changes_in ws n o)) (weigh h (map (change_of ws n) (put nat_cmp k st (finite.entries o))))) (sym (finite.get-entries o k))
    (put_entries h ws n k st (finite.entries o) (finite.entries_sorted o)))

touched_from : (h : Option (List ℕ) → ℕ) (wss : List (List ℕ)) (n : ℕ) (os : List Overlay) (r key : ℕ) (st : Option (List Value)) → r < length os
    → Exchanges (had h (own_widths wss (n + r)) (finite.get (overlay_at os r) key)) (h (widths_if (own_widths wss (n + r)) st)) (weigh h (changes_from wss n os)) (weigh h (changes_from wss n (touch os r key st)))
touched_from h wss n [] r key st l = absurd (omega (arith, l))
touched_from h wss n (o ∷ os) zero key st l =
    let rest : ℕ = weigh h (changes_from wss (n + 1) os) in
    let own : List ℕ = own_widths wss n in
    let here : n ≡ n + 0 = sym (add-zero n) in
    subst (λ m. Exchanges (had h (own_widths wss m) (finite.get o key)) (h (widths_if (own_widths wss m) st)) (weigh h (changes_in own n o ++ changes_from wss (n + 1) os)) (weigh h (changes_in own n (finite.insert o key st) ++ changes_from wss (n + 1) os))) here
    (subst (λ x. Exchanges (had h own (finite.get o key)) (h (widths_if own st)) x (weigh h (changes_in own n (finite.insert o key st) ++ changes_from wss (n + 1) os))) (sym (weigh_then h (changes_in own n o) (changes_from wss (n + 1) os)))
    (subst (λ x. Exchanges (had h own (finite.get o key)) (h (widths_if own st)) (weigh h (changes_in own n o) + rest) x) (sym (weigh_then h (changes_in own n (finite.insert o key st)) (changes_from wss (n + 1) os)))
    (rest_more rest _ _ _ _ (touched_in h own n key st o))))
touched_from h wss n (o ∷ os) (suc r) key st l =
    let first : ℕ = weigh h (changes_in (own_widths wss n) n o) in
    let own : List ℕ = own_widths wss (n + suc r) in
    let further : n + 1 + r ≡ n + suc r = omega arith in
    let old : ℕ = had h own (finite.get (overlay_at os r) key) in
    let new : ℕ = h (widths_if own st) in
    subst (λ x. Exchanges old new x (weigh h (changes_in (own_widths wss n) n o ++ changes_from wss (n + 1) (touch os r key st)))) (sym (weigh_then h (changes_in (own_widths wss n) n o) (changes_from wss (n + 1) os)))
    (subst (λ x. Exchanges old new (first + weigh h (changes_from wss (n + 1) os)) x) (sym (weigh_then h (changes_in (own_widths wss n) n o) (changes_from wss (n + 1) (touch os r key st))))
    (more_rest first _ _ _ _
    (subst (λ m. Exchanges (had h (own_widths wss m) (finite.get (overlay_at os r) key)) (h (widths_if (own_widths wss m) st)) (weigh h (changes_from wss (n + 1) os)) (weigh h (changes_from wss (n + 1) (touch os r key st)))) further
    (touched_from h wss (n + 1) os r key st (omega (arith, l))))))

pub touched_weigh : (h : Option (List ℕ) → ℕ) (wss : List (List ℕ)) (os : List Overlay) (r key : ℕ) (st : Option (List Value)) → r < length os
    → Exchanges (had h (own_widths wss r) (finite.get (overlay_at os r) key)) (h (widths_if (own_widths wss r) st)) (weigh h (changes_from wss 0 os)) (weigh h (changes_from wss 0 (touch os r key st)))
touched_weigh h wss os r key st l =
    let same : 0 + r ≡ r = omega arith in
    subst (λ m. Exchanges (had h (own_widths wss m) (finite.get (overlay_at os r) key)) (h (widths_if (own_widths wss m) st)) (weigh h (changes_from wss 0 os)) (weigh h (changes_from wss 0 (touch os r key st)))) same
    (touched_from h wss 0 os r key st l)

-- ---- the bulk after a touch

-- tallies with the same numbers
pub same_bulk : (t u : Bulk) → t.plain ≡ u.plain → t.wide ≡ u.wide → t.texts ≡ u.texts → t ≡ u
same_bulk t u p w x =
    ap (λ n. let y : Bulk = record { plain = n; wide = t.wide; texts = t.texts } in y) p
    ∙ ap (λ n. let y : Bulk = record { plain = u.plain; wide = n; texts = t.texts } in y) w
    ∙ ap (λ n. let y : Bulk = record { plain = u.plain; wide = u.wide; texts = n } in y) x

-- what the old bulk has of a key
pub record IsPartOf (old t : Bulk) : Type 0 where
  pub plain : old.plain ≤ t.plain
  pub wide : old.wide ≤ t.wide
  pub texts : old.texts ≤ t.texts

had_size : (wide : Bool) (ws : List ℕ) (o : Option (Option (List Value))) → had (size_by wide) ws o ≡ cond wide (weight_at ws o).wide (weight_at ws o).plain
had_size true ws None = refl
had_size false ws None = refl
had_size true ws (Some st) = refl
had_size false ws (Some st) = refl

had_texts : (ws : List ℕ) (o : Option (Option (List Value))) → had text_by ws o ≡ (weight_at ws o).texts
had_texts ws None = refl
had_texts ws (Some st) = refl

sized : (wide : Bool) (wss : List (List ℕ)) (os : List Overlay) (r key : ℕ) (st : Option (List Value)) → r < length os
    → Exchanges (cond wide (weight_at (own_widths wss r) (finite.get (overlay_at os r) key)).wide (weight_at (own_widths wss r) (finite.get (overlay_at os r) key)).plain) (size_by wide (widths_if (own_widths wss r) st)) (changes_size wide (changes_from wss 0 os)) (changes_size wide (changes_from wss 0 (touch os r key st)))
sized wide wss os r key st l =
    let e = touched_weigh (size_by wide) wss os r key st l in
    let a = e.before in
    let b = e.after in
    let old = had_size wide (own_widths wss r) (finite.get (overlay_at os r) key) in
    record { rest = e.rest; before = size_is wide (changes_from wss 0 os) ∙ a ∙ ap (λ n. e.rest + n) old; after = size_is wide (changes_from wss 0 (touch os r key st)) ∙ b }

texted : (wss : List (List ℕ)) (os : List Overlay) (r key : ℕ) (st : Option (List Value)) → r < length os
    → Exchanges (weight_at (own_widths wss r) (finite.get (overlay_at os r) key)).texts (text_by (widths_if (own_widths wss r) st)) (text_count (changes_from wss 0 os)) (text_count (changes_from wss 0 (touch os r key st)))
texted wss os r key st l =
    let e = touched_weigh text_by wss os r key st l in
    let a = e.before in
    let b = e.after in
    record { rest = e.rest; before = texts_are (changes_from wss 0 os) ∙ a ∙ ap (λ n. e.rest + n) (had_texts (own_widths wss r) (finite.get (overlay_at os r) key)); after = texts_are (changes_from wss 0 (touch os r key st)) ∙ b }

pub part_of : (wss : List (List ℕ)) (os : List Overlay) (r key : ℕ) → r < length os → IsPartOf (weight_at (own_widths wss r) (finite.get (overlay_at os r) key)) (bulk_of (changes_from wss 0 os))
part_of wss os r key l =
    let a = sized false wss os r key None l in
    let b = sized true wss os r key None l in
    let c = texted wss os r key None l in
    let p = a.before in
    let w = b.before in
    let t = c.before in
    record { plain = omega (arith, p); wide = omega (arith, w); texts = omega (arith, t) }

less_more : (old new x y : ℕ) → Exchanges old new x y → x - old + new ≡ y
less_more old new x y e = let a = e.before in let b = e.after in omega (arith, a, b)

pub bulk_touched : (wss : List (List ℕ)) (os : List Overlay) (r key : ℕ) (st : Option (List Value)) → r < length os
    → exchanged (bulk_of (changes_from wss 0 os)) (weight_at (own_widths wss r) (finite.get (overlay_at os r) key)) (weight (widths_if (own_widths wss r) st)) ≡ bulk_of (changes_from wss 0 (touch os r key st))
bulk_touched wss os r key st l =
    let old : Bulk = weight_at (own_widths wss r) (finite.get (overlay_at os r) key) in
    let new : Bulk = weight (widths_if (own_widths wss r) st) in
    let t : Bulk = bulk_of (changes_from wss 0 os) in
    let u : Bulk = bulk_of (changes_from wss 0 (touch os r key st)) in
    same_bulk (exchanged t old new) u (less_more _ _ _ _ (sized false wss os r key st l)) (less_more _ _ _ _ (sized true wss os r key st l)) (less_more _ _ _ _ (texted wss os r key st l))

-- the widths beside the final state of a key
pub live_widths : (ws : List ℕ) (t : Touch) → cond t.live (Some ws) None ≡ widths_if ws (state_of t)
live_widths ws t = elim t.live as (λ b. cond b (Some ws) None ≡ widths_if ws (cond b (Some t.row.fields) None)) [ true ↦ refl | false ↦ refl ]

-- and beside fields
pub widths_beside : (ws : List ℕ) (fields : Option (List Value)) → cond (is_some fields) (Some ws) None ≡ widths_if ws fields
widths_beside ws None = refl
widths_beside ws (Some vs) = refl

-- what a bulk is that was kept
pub old_part : (wss : List (List ℕ)) (os : List Overlay) (r key : ℕ) (t old : Bulk) → r < length os → t ≡ bulk_of (changes_from wss 0 os) → old ≡ weight_at (own_widths wss r) (finite.get (overlay_at os r) key) → IsPartOf old t
old_part wss os r key t old l is e = subst (λ (x : Bulk). IsPartOf x t) (sym e) (subst (λ (x : Bulk). IsPartOf (weight_at (own_widths wss r) (finite.get (overlay_at os r) key)) x) (sym is) (part_of wss os r key l))

pub small_part : (wss : List (List ℕ)) (os : List Overlay) (room : ℕ) (t : Bulk) → t ≡ bulk_of (changes_from wss 0 os) → count_touched os ≤ room → room < 2 ^ 32 → most_from 10 wss < 2 ^ 16 → IsSmall t
small_part wss os room t is few wide small = subst IsSmall (sym is) (bulk_small wss os room few wide small)

-- and what it becomes
pub new_bulk : (wss : List (List ℕ)) (os : List Overlay) (r key : ℕ) (st : Option (List Value)) (t old : Bulk) (ws : Option (List ℕ)) → r < length os → t ≡ bulk_of (changes_from wss 0 os) → old ≡ weight_at (own_widths wss r) (finite.get (overlay_at os r) key) → ws ≡ widths_if (own_widths wss r) st
    → exchanged t old (weight ws) ≡ bulk_of (changes_from wss 0 (touch os r key st))
new_bulk wss os r key st t old ws l is e own =
    ap (λ (x : Bulk). exchanged x old (weight ws)) is
    ∙ ap (λ (x : Bulk). exchanged (bulk_of (changes_from wss 0 os)) x (weight ws)) e
    ∙ ap (λ (x : Option (List ℕ)). exchanged (bulk_of (changes_from wss 0 os)) (weight_at (own_widths wss r) (finite.get (overlay_at os r) key)) (weight x)) own
    ∙ bulk_touched wss os r key st l

-- whether an entry can take changes
pub body_bulk : (second : Option VersionPlace) (cs : List Change) (t : Bulk) → t ≡ bulk_of cs → nat_le (9 + second_size second + size_in t) most_entry ≡ nat_le (commit_size second cs) most_entry
body_bulk second cs t is = ap (λ n. nat_le n most_entry) (ap (λ (x : Bulk). 9 + second_size second + size_in x) is ∙ sym (commit_bulk second cs))

-- ---- all changes of a merge

-- changes of fresh keys add what they have
weigh_by : (h : Option (List ℕ) → ℕ) (wss : List (List ℕ)) (os : List Overlay) (cs : List Change) → list_all (λ c. nat_lt c.relation (length os)) cs ≡ true → keys_differ cs ≡ true → AreFresh os cs
    → weigh h (changes_from wss 0 (touched_by os cs)) ≡ weigh h (changes_from wss 0 os) + weigh h (map (with_own wss) cs)
weigh_by h wss os [] w d f = omega arith
weigh_by h wss os (c ∷ cs) w d f =
    let two = and_parts (nat_lt c.relation (length os)) (list_all (λ c. nat_lt c.relation (length os)) cs) w in
    let apart = and_parts (not (list_any (is_of_key c) cs)) (keys_differ cs) d in
    let l : c.relation < length os = ltb-true c.relation (length os) two.0 in
    let new : List Overlay = touch os c.relation c.key c.fields in
    let rest = weigh_by h wss new cs (subst (λ n. list_all (λ c. nat_lt c.relation n) cs ≡ true) (sym (touch_length os c)) two.1) apart.1 (fresh_after os c cs l (not-true (list_any (is_of_key c) cs) apart.0) f.1) in
    let one = touched_weigh h wss os c.relation c.key c.fields l in
    let a = one.before in
    let b = one.after in
    let nothing : had h (own_widths wss c.relation) (finite.get (overlay_at os c.relation) c.key) ≡ 0 = absent (finite.get (overlay_at os c.relation) c.key) f.0 in
    omega (arith, rest, a, b, nothing)
  where
    absent : (o : Option (Option (List Value))) → is_some o ≡ false → had h (own_widths wss c.relation) o ≡ 0
    absent None e = refl
    absent (Some st) e = absurd (false≢true (sym e))

-- nothing touched has no bytes
pub none_weigh : (h : Option (List ℕ) → ℕ) (wss : List (List ℕ)) → weigh h (changes_from wss 0 untouched) ≡ 0
none_weigh h wss = by (changes_from wss 0 untouched) (length_none wss)
  where
    length_none : (wss : List (List ℕ)) → length (changes_from wss 0 untouched) ≡ 0
    length_none wss = length_changes wss 0 untouched ∙ count_untouched

    by : (cs : List Change) → length cs ≡ 0 → weigh h cs ≡ 0
    by [] e = refl
    by (c ∷ cs) e = absurd (omega (arith, e))

pub bulk_untouched : (wss : List (List ℕ)) → bulk_of (changes_from wss 0 untouched) ≡ no_bulk
bulk_untouched wss =
    let none : List Change = changes_from wss 0 untouched in
    let plain : changes_size false none ≡ 0 = size_is false none ∙ none_weigh (size_by false) wss in
    let wide : changes_size true none ≡ 0 = size_is true none ∙ none_weigh (size_by true) wss in
    let texts : text_count none ≡ 0 = texts_are none ∙ none_weigh text_by wss in
    ap (λ n. let y : Bulk = record { plain = n; wide = changes_size true none; texts = text_count none } in y) plain
    ∙ ap (λ n. let y : Bulk = record { plain = 0; wide = n; texts = text_count none } in y) wide
    ∙ ap (λ n. let y : Bulk = record { plain = 0; wide = 0; texts = n } in y) texts

pub short_untouched : (second : Option VersionPlace) (wss : List (List ℕ)) → commit_size second (changes_from wss 0 untouched) ≤ most_entry
short_untouched second wss =
    let none = size_is (any_text (changes_from wss 0 untouched)) (changes_from wss 0 untouched) ∙ none_weigh (size_by (any_text (changes_from wss 0 untouched))) wss in
    let few = second_most second in
    omega (arith, none, few)

-- the bulk of a merge
pub bulk_merged : (wss : List (List ℕ)) (cs : List Change) → list_all (λ c. nat_lt c.relation 8) cs ≡ true → keys_differ cs ≡ true → bulk_of (map (with_own wss) cs) ≡ bulk_of (changes_from wss 0 (touched_by untouched cs))
bulk_merged wss cs w d =
    let own : List Change = map (with_own wss) cs in
    let all : List Change = changes_from wss 0 (touched_by untouched cs) in
    let plain : changes_size false own ≡ changes_size false all = size_is false own ∙ same (size_by false) ∙ sym (size_is false all) in
    let wide : changes_size true own ≡ changes_size true all = size_is true own ∙ same (size_by true) ∙ sym (size_is true all) in
    let texts : text_count own ≡ text_count all = texts_are own ∙ same text_by ∙ sym (texts_are all) in
    ap (λ n. let y : Bulk = record { plain = n; wide = changes_size true own; texts = text_count own } in y) plain
    ∙ ap (λ n. let y : Bulk = record { plain = changes_size false all; wide = n; texts = text_count own } in y) wide
    ∙ ap (λ n. let y : Bulk = record { plain = changes_size false all; wide = changes_size true all; texts = n } in y) texts
  where
    same : (h : Option (List ℕ) → ℕ) → weigh h (map (with_own wss) cs) ≡ weigh h (changes_from wss 0 (touched_by untouched cs))
    same h =
        let none = none_weigh h wss in
        let by = weigh_by h wss untouched cs w d (fresh_untouched cs) in
        omega (arith, none, by)

-- ---- one change more

-- with one change more the bulk has what it has
pub record AddsNext (t u : Bulk) (wss : List (List ℕ)) (cs : List Change) (i : ℕ) : Type 0 where
  pub plain : u.plain + changes_size false (map (with_own wss) (drop (i + 1) cs)) ≡ t.plain + changes_size false (map (with_own wss) (drop i cs))
  pub wide : u.wide + changes_size true (map (with_own wss) (drop (i + 1) cs)) ≡ t.wide + changes_size true (map (with_own wss) (drop i cs))
  pub texts : u.texts + text_count (map (with_own wss) (drop (i + 1) cs)) ≡ t.texts + text_count (map (with_own wss) (drop i cs))

pub next_bulk : (t none u : Bulk) (ws : Option (List ℕ)) (wss : List (List ℕ)) (cs : List Change) (i : ℕ) → i < length cs → none ≡ no_bulk → u ≡ exchanged t none (weight ws) → ws ≡ widths_if (own_widths wss (change_here cs i).relation) (change_here cs i).fields → AddsNext t u wss cs i
next_bulk t none u ws wss cs i h zeros is own =
    let one : Change = with_own wss (change_here cs i) in
    let sum : u ≡ exchanged t no_bulk (weight one.widths) = is ∙ ap (λ (x : Bulk). exchanged t x (weight ws)) zeros ∙ ap (λ (x : Option (List ℕ)). exchanged t no_bulk (weight x)) own in
    let next : drop i cs ≡ change_here cs i ∷ drop (i + 1) cs = next_change cs i h in
    record {
      plain = omega (arith, ap (λ (x : Bulk). x.plain) sum, ap (λ (ds : List Change). changes_size false (map (with_own wss) ds)) next);
      wide = omega (arith, ap (λ (x : Bulk). x.wide) sum, ap (λ (ds : List Change). changes_size true (map (with_own wss) ds)) next);
      texts = omega (arith, ap (λ (x : Bulk). x.texts) sum, ap (λ (ds : List Change). text_count (map (with_own wss) ds)) next);
    }

-- ---- changes that fit

-- widths that fit beside fields
pub widths_fit : (ws : List ℕ) (fields : Option (List Value)) (widths : Option (List ℕ)) → has_widths ws fields widths ≡ true → widths_if ws fields ≡ widths
widths_fit ws None None e = refl
widths_fit ws None (Some us) e = absurd (false≢true e)
widths_fit ws (Some fields) None e = absurd (false≢true e)
widths_fit ws (Some fields) (Some us) e = ap (λ (vs : List ℕ). Some vs) (sym (bytes_is us ws e))

pub fits_own : (schema : List Relation) (c : Change) → length schema ≤ 8 → change_fits schema c ≡ true → with_own (all_widths schema) c ≡ c
fits_own schema c few fit =
    let within = and_parts (nat_lt c.relation (length schema)) (has_fields (widths_at schema c.relation) c.fields && has_widths (widths_at schema c.relation) c.fields c.widths) fit in
    let own = and_parts (has_fields (widths_at schema c.relation) c.fields) (has_widths (widths_at schema c.relation) c.fields c.widths) within.1 in
    let l : c.relation < length schema = ltb-true c.relation (length schema) within.0 in
    ap (λ (ws : Option (List ℕ)). let d : Change = record { relation = c.relation; key = c.key; fields = c.fields; widths = ws } in d)
    (ap (λ (ws : List ℕ). widths_if ws c.fields) (widths_here schema c.relation l (omega (arith, l, few))) ∙ widths_fit (widths_at schema c.relation) c.fields c.widths own.1)

all_own : (schema : List Relation) (cs : List Change) → length schema ≤ 8 → list_all (change_fits schema) cs ≡ true → map (with_own (all_widths schema)) cs ≡ cs
all_own schema [] few fit = refl
all_own schema (c ∷ cs) few fit =
    let two = and_parts (change_fits schema c) (list_all (change_fits schema) cs) fit in
    ap (λ (d : Change). d ∷ map (with_own (all_widths schema)) cs) (fits_own schema c few two.0) ∙ ap (λ (ds : List Change). c ∷ ds) (all_own schema cs few two.1)

fit_within : (schema : List Relation) (cs : List Change) → length schema ≤ 8 → list_all (change_fits schema) cs ≡ true → list_all (λ c. nat_lt c.relation 8) cs ≡ true
fit_within schema [] few fit = refl
fit_within schema (c ∷ cs) few fit =
    let two = and_parts (change_fits schema c) (list_all (change_fits schema) cs) fit in
    let within = and_parts (nat_lt c.relation (length schema)) (has_fields (widths_at schema c.relation) c.fields && has_widths (widths_at schema c.relation) c.fields c.widths) two.0 in
    let l : c.relation < length schema = ltb-true c.relation (length schema) within.0 in
    and_from (nat_lt c.relation 8) (list_all (λ c. nat_lt c.relation 8) cs) (lt-ltb c.relation 8 (omega (arith, l, few))) (fit_within schema cs few two.1)

-- an entry has as many bytes with the changes of a merge as with what is touched by them
pub merged_size : (schema : List Relation) (second : Option VersionPlace) (cs : List Change) → length schema ≤ 8 → list_all (change_fits schema) cs ≡ true → keys_differ cs ≡ true
    → commit_size second (changes_from (all_widths schema) 0 (touched_by untouched cs)) ≡ commit_size second cs
merged_size schema second cs few fit differ =
    commit_bulk second (changes_from (all_widths schema) 0 (touched_by untouched cs))
    ∙ ap (λ (t : Bulk). 9 + second_size second + size_in t)
    (sym (bulk_merged (all_widths schema) cs (fit_within schema cs few fit) differ) ∙ ap bulk_of (all_own schema cs few fit))
    ∙ sym (commit_bulk second cs)
