-- What holds of a transaction whose entry fits.
use Rattle.std.proofs.Common.{◌≡◌, ℕ, ◌+◌, ◌<◌, ◌≤◌, nat_lt, nat_le, not, Bool, true, false, cond, ◌&&◌, ◌||◌, is_some, List, [], ◌∷◌, length, Option, Some, None, refl, ap, sym, ◌∙◌, subst, arith}
use Rattle.std.specs.Ordering.{nat_cmp}
use Rattle.std.specs.FinMap as finite
use Rattle.std.specs.List.{list_all}
use Rattle.std.proofs.lemmas.Bool.{and_from, and_parts, or_parts, ltb-true, lt-ltb, leb-true, false≢true}
use Rattle.std.proofs.lemmas.List.{length-replicate, nil_from_length}
use Rattle.std.proofs.lemmas.List.Quantifiers.{position-Some}
use Rattle.db_value.specs.declared.version.VersionName.{VersionName}
use Rattle.db_value.specs.declared.version.VersionPlace.{VersionPlace}
use Rattle.db_value.specs.Schema.{most_relations}
use Rattle.db_value.specs.declared.condition.Prefer.{Prefer}
use Rattle.db_value.specs.declared.schema.Relation.{Relation}
use Rattle.db_value.specs.declared.entry.Change.{Change}
use Rattle.db_value.specs.declared.entry.Entry.TheVariants.{Branch as BranchEntry}
use Rattle.db_value.specs.declared.reply.Refusal.TheVariants.{Room}
use Rattle.db_store.specs.Table.{Table, with_changes}
use Rattle.db_store.specs.Body.{commit_size, most_entry}
use Rattle.db_store.specs.Overlay.{Overlay, untouched, is_touched, count_touched, touch, laid, changes_from}
use Rattle.db_store.specs.Dataset.{Dataset, no_branch, branch_at, branch_named, head_of, head_place, IsMade}
use Rattle.db_store.specs.Fits.{fits, second_fits, is_within, most_keys}
use Rattle.db_store.specs.Adopt.{touched_by, full_from}
use Rattle.db_store.specs.RowWidths.{all_widths}
use Rattle.db_store.specs.Sound.{IsSound}
use Rattle.db_store.specs.Counted.{IsTable}
use Rattle.db_store.specs.Growth.{made_test}
use Rattle.db_store.proofs.OverlayLemmas.{laid_touched, laid_untouched, count_touch, count_untouched, length_changes, overlay_none}
use Rattle.db_store.proofs.AdoptLemmas.{laid_by, count_by}
use Rattle.db_store.proofs.CountLemmas.{ascending_differ}
use Rattle.db_store.proofs.CountedLemmas.{changes_shaped, table_from, table_shaped}
use Rattle.field_merge.specs.Merge.{Clash}
use Rattle.field_merge.proofs.OrderLemmas.{merged_within, merged_fits, merged_ascends}
use Rattle.stmt_text.specs.declared.stmt.Stmt.{Stmt}
use Rattle.stmt_text.specs.declared.stmt.Stmt.TheVariants.{Begin}
use Rattle.branch_tx.specs.Keeping.{over_table}
use Rattle.db_store.specs.Found.{found, found_by, lack, place_found, NoPosition}
use Rattle.branch_tx.specs.Act.{Tx, is_body}
use Rattle.branch_tx.specs.Merging.{merge_refusal, put_all}
use Rattle.branch_tx.specs.Alone.{fresh, room_of, ground_of, common_table, place_in, overlaid}
use Rattle.branch_tx.specs.Frame.{is_changed}
use Rattle.branch_tx.specs.Laws.{IsRoomy, AllRoomy}
use Rattle.branch_tx.proofs.Private.{State, IsWork}
use Rattle.branch_tx.proofs.Keeps.{IsChange, IsBranch, IsMerge, merge_changes, merged_with, step_keeps}
use Rattle.branch_tx.proofs.Alike.{overlaid_work}
use Rattle.branch_tx.proofs.Tables.{table_changed}

-- A transaction touched at most 65,536 keys, of a branch that isn't full where it changed something, and none where it didn't; its working table is one of the schema, and makes no entry that is too large; and a second parent and a branch that it makes fit.
pub record IsFitting (d : Dataset) (b : ℕ) (tx : Tx (List Overlay)) : Type 0 where
  pub room : tx.room ≤ 65536
  pub touches : count_touched tx.work ≤ 65536
  pub open_branch : is_changed tx ≡ true → (ground_of d b).full ≡ false
  pub clean : is_changed tx ≡ false → tx.work ≡ untouched
  pub table : IsTable d.schema (laid (head_of d b) tx.work)
  pub body : is_body (over_table (head_of d b)) d.schema tx.second tx.work ≡ true
  pub second : second_fits d tx.second ≡ true
  pub made : (new : List ℕ × VersionPlace) → tx.made ≡ Some new → fits d (BranchEntry new.0 new.1) ≡ true

-- nothing is changed where nothing is touched
nothing_changed : (wss : List (List ℕ)) → changes_from wss 0 untouched ≡ []
nothing_changed wss = nil_from_length (changes_from wss 0 untouched) (length_changes wss 0 untouched ∙ count_untouched)

fresh_fitting : (d : Dataset) (b : ℕ) → IsTable d.schema (head_of d b) → IsFitting d b (fresh untouched)
fresh_fitting d b t = record {
  room = omega arith;
  touches = let n = count_untouched in omega (arith, n);
  open_branch = λ e. absurd (false≢true (ap (λ n. nat_lt 0 n || false) (sym count_untouched) ∙ e));
  clean = λ e. refl;
  table = subst (IsTable d.schema) (sym (laid_untouched (head_of d b))) t;
  body = ap (λ (cs : List Change). nat_le (commit_size None cs) most_entry) (nothing_changed (all_widths d.schema));
  second = refl;
  made = λ new e. absurd cc;
}

-- ---- a begin

room_within : (x : Stmt) (room : Option ℕ) → x ≡ Begin room → IsRoomy x → room_of room ≤ 65536
room_within x room e h = by room (subst IsRoomy e h)
  where
    by : (o : Option ℕ) → IsRoomy (Begin o) → room_of o ≤ 65536
    by None h = omega arith
    by (Some n) h = h

-- ---- a change

one_more : (q : Bool) (x n room : ℕ) → (q || nat_lt n room) ≡ true → x ≡ cond q n (n + 1) → n ≤ 65536 → room ≤ 65536 → x ≤ 65536
one_more true x n room h e k r = omega (arith, e, k)
one_more false x n room h e k r = let l = ltb-true n room h in omega (arith, e, l, r)

-- no key is touched yet
none_touched : (r key : ℕ) → is_touched untouched r key ≡ false
none_touched r key = ap (λ (o : Overlay). is_some (finite.get o key)) (overlay_none most_relations r) ∙ ap is_some (finite.get-empty nat_cmp key)

still_clean : (d : Dataset) (b : ℕ) (tx : Tx (List Overlay)) (r key : ℕ) (st : State) → IsFitting d b tx → r < length tx.work → is_changed (record tx { work = touch tx.work r key st }) ≡ false → touch tx.work r key st ≡ untouched
still_clean d b tx r key st f many e = absurd (by (is_touched tx.work r key) refl (count_touch tx.work r key st many))
  where
    by : (q : Bool) → is_touched tx.work r key ≡ q → count_touched (touch tx.work r key st) ≡ cond q (count_touched tx.work) (count_touched tx.work + 1) → ⊥
    by true q c =
        let work : tx.work ≡ untouched = f.clean (ap (λ n. nat_lt 0 n || is_some tx.second) (sym c) ∙ e) in
        false≢true (sym (none_touched r key) ∙ ap (λ (os : List Overlay). is_touched os r key) (sym work) ∙ q)
    by false q c =
        let two = or_parts (nat_lt 0 (count_touched tx.work + 1)) (is_some tx.second) (ap (λ n. nat_lt 0 n || is_some tx.second) (sym c) ∙ e) in
        false≢true (sym two.0 ∙ lt-ltb 0 (count_touched tx.work + 1) (omega arith))

change_fitting : (d : Dataset) (b : ℕ) (tx : Tx (List Overlay)) (r key : ℕ) (st : State) → length (head_of d b) ≡ length d.schema → length d.schema ≤ 8 → IsWork (head_of d b) tx.work → IsFitting d b tx → IsChange (over_table (head_of d b)) (ground_of d b) tx r key st
    → IsFitting d b (record tx { work = touch tx.work r key st })
change_fitting d b tx r key st wide few w f c =
    let within = c.within in
    let inside : r < length (head_of d b) = omega (arith, wide, within) in
    let many : r < length tx.work = let n = w.wide in omega (arith, within, few, n) in
    record {
      room = f.room;
      touches = one_more (is_touched tx.work r key) _ (count_touched tx.work) tx.room c.room (count_touch tx.work r key st many) f.touches f.room;
      open_branch = λ e. c.open_branch;
      clean = still_clean d b tx r key st f many;
      table = subst (IsTable d.schema) (sym (laid_touched (head_of d b) tx.work r key st inside many)) (table_changed d.schema (laid (head_of d b) tx.work) r key st f.table c.within c.state);
      body = c.body;
      second = f.second;
      made = f.made;
    }

-- ---- a new branch

position_place : (d : Dataset) (name : List ℕ) (b n : ℕ) (q : Bool) → b < length d.branches → nat_lt n (length (branch_at d b).versions) ≡ q → lack (cond q (place_found d (record { branch = b; position = n })) (NoPosition b name n)) ≡ None
    → IsMade d (place_in (cond q (place_found d (record { branch = b; position = n })) (NoPosition b name n)))
position_place d name b n true h e l = (h, ltb-true n _ e)
position_place d name b n false h e l = absurd cc

by_place : (d : Dataset) (name : List ℕ) (position : Option ℕ) (o : Option ℕ) → IsSound d → branch_named d name ≡ o → lack (found_by d name position o) ≡ None → IsMade d (place_in (found_by d name position o))
by_place d name None None s e l = absurd cc
by_place d name None (Some b) s e l =
    let h = (position-Some _ d.branches b no_branch e).0 in
    (h, let r = s.rooted b h in omega (arith, r))
by_place d name (Some n) None s e l = absurd cc
by_place d name (Some n) (Some b) s e l = position_place d name b n (nat_lt n (length (branch_at d b).versions)) (position-Some _ d.branches b no_branch e).0 refl l

new_fitting : (d : Dataset) (b : ℕ) (tx : Tx (List Overlay)) (name : List ℕ) (origin : VersionName) → IsSound d → IsFitting d b tx → IsBranch d name (found d origin) → IsFitting d b (record tx { made = Some (name, place_in (found d origin)) })
new_fitting d b tx name origin s f n = record {
  room = f.room;
  touches = f.touches;
  open_branch = f.open_branch;
  clean = f.clean;
  table = f.table;
  body = f.body;
  second = f.second;
  made = λ new e. let same : (name, place_in (found d origin)) ≡ new = cc in subst (λ (p : List ℕ × VersionPlace). fits d (BranchEntry p.0 p.1) ≡ true) same fit;
}
  where
    fit : fits d (BranchEntry name (place_in (found d origin))) ≡ true
    fit = and_from _ _ (and_from _ _ (ap (λ (o : Option ℕ). not (is_some o)) n.new) n.room) (made_test d (place_in (found d origin)) (by_place d origin.branch origin.position (branch_named d origin.branch) s refl n.origin))

-- ---- a merge

pub put_all_is : (t : Table) (os : List Overlay) (cs : List Change) → put_all (over_table t) os cs ≡ touched_by os cs
put_all_is t os [] = refl
put_all_is t os (c ∷ cs) = put_all_is t (touch os c.relation c.key c.fields) cs

more_relations : (m n : ℕ) (cs : List Change) → m ≤ n → list_all (λ c. nat_lt c.relation m) cs ≡ true → list_all (λ c. nat_lt c.relation n) cs ≡ true
more_relations m n [] h w = refl
more_relations m n (c ∷ cs) h w =
    let two = and_parts (nat_lt c.relation m) (list_all (λ c. nat_lt c.relation m) cs) w in
    and_from _ _ (lt-ltb c.relation n (let l = ltb-true c.relation m two.0 in omega (arith, h, l))) (more_relations m n cs h two.1)

-- no relation has more keys than it can have
none_full : (n : ℕ) (t : Table) → full_from n t ≡ None → is_within t ≡ true
none_full n [] e = refl
none_full n (m ∷ ms) e = by (nat_le (finite.len m) most_keys) (λ q. none_full (n + 1) ms q) e
  where
    by : (q : Bool) → (full_from (n + 1) ms ≡ None → is_within ms ≡ true) → cond q (full_from (n + 1) ms) (Some n) ≡ None → (q && is_within ms) ≡ true
    by true rest e = rest e
    by false rest e = absurd cc

-- an accepted merge fills no relation, and has room for its changes
accepted_parts : (schema : List Relation) (room count : ℕ) (o : Option Clash) (full : Option ℕ) → merge_refusal schema room count o full ≡ None → (full ≡ None) × (count ≤ room)
accepted_parts schema room count (Some c) full e = absurd cc
accepted_parts schema room count None (Some r) e = absurd cc
accepted_parts schema room count None None e = (refl, leb-true count room (by (nat_le count room) e))
  where
    by : (q : Bool) → cond q None (Some (Room room)) ≡ None → q ≡ true
    by true e = refl
    by false e = absurd cc

module _ (d : Dataset) (b : ℕ) (sound : IsSound d) (tables : (c : ℕ) → c < length d.branches → IsTable d.schema (head_of d c)) (few : length d.schema ≤ 8) (here : b < length d.branches) (prefer : Prefer) (c : ℕ) (there : c < length d.branches) where
  abbrev cs : List Change
  cs = merge_changes d b prefer c

  own_table : IsTable d.schema (head_of d b)
  own_table = tables b here

  cs_within : list_all (λ x. nat_lt x.relation (length (head_of d b))) cs ≡ true
  cs_within = merged_within (all_widths d.schema) prefer (common_table d b c) (head_of d b) (head_of d c)

  narrow : length (head_of d b) ≤ 8
  narrow = let w = own_table.wide in omega (arith, w, few)

  put_is : (os : List Overlay) → os ≡ untouched → put_all (over_table (head_of d b)) os cs ≡ touched_by untouched cs
  put_is os e = put_all_is (head_of d b) os cs ∙ ap (λ (x : List Overlay). touched_by x cs) e

  merged_count : count_touched (touched_by untouched cs) ≡ length cs
  merged_count = count_by cs (more_relations (length (head_of d b)) 8 cs narrow cs_within) (ascending_differ cs (merged_ascends (all_widths d.schema) prefer (common_table d b c) (head_of d b) (head_of d c)))

  merged_laid : laid (head_of d b) (touched_by untouched cs) ≡ with_changes (head_of d b) cs
  merged_laid = laid_by (head_of d b) untouched cs (let n = length-replicate most_relations (finite.empty {X = State} {R = nat_cmp}) in omega (arith, narrow, n)) cs_within ∙ ap (λ (t : Table). with_changes t cs) (laid_untouched (head_of d b))

  merge_fitting : (tx : Tx (List Overlay)) → IsFitting d b tx → IsMerge (over_table (head_of d b)) d b tx prefer c → IsFitting d b (merged_with (over_table (head_of d b)) d b tx prefer c)
  merge_fitting tx f m =
      let put = put_is tx.work (f.clean m.first) in
      let both = accepted_parts d.schema tx.room (length cs) _ (full_from 0 (with_changes (head_of d b) cs)) m.accepted in
      let count : count_touched (put_all (over_table (head_of d b)) tx.work cs) ≡ length cs = ap count_touched put ∙ merged_count in
      let room = f.room in
      let fits_room = both.1 in
      record {
        room = f.room;
        touches = omega (arith, count, room, fits_room);
        open_branch = λ e. m.open_branch;
        clean = λ e. absurd (false≢true (sym (or_parts (nat_lt 0 (count_touched (put_all (over_table (head_of d b)) tx.work cs))) true e).1));
        table = subst (IsTable d.schema) (sym (ap (laid (head_of d b)) put ∙ merged_laid))
            (table_from d.schema (with_changes (head_of d b) cs) (changes_shaped d.schema (head_of d b) cs (merged_fits d.schema prefer (common_table d b c) (head_of d b) (head_of d c) few own_table (tables c there)) (table_shaped d.schema (head_of d b) own_table)) (none_full 0 (with_changes (head_of d b) cs) both.0));
        body = m.body;
        second = made_test d (head_place d c) (there, let r = sound.rooted c there in omega (arith, r));
        made = f.made;
      }

-- ---- all lines

pub overlaid_fitting : (d : Dataset) (b : ℕ) (xs : List Stmt) → IsSound d → ((c : ℕ) → c < length d.branches → IsTable d.schema (head_of d c)) → b < length d.branches → length d.schema ≤ 8 → AllRoomy xs → IsFitting d b (overlaid d b xs)
overlaid_fitting d b [] s tables l few h = fresh_fitting d b (tables b l)
overlaid_fitting d b (x ∷ xs) s tables l few h =
    let t = tables b l in
    let old = overlaid_fitting d b xs s tables l few h.1 in
    let w = overlaid_work d b xs t.wide in
    step_keeps (over_table (head_of d b)) (IsFitting d b) d b (overlaid d b xs) x old
    (λ room is. record { room = room_within x room is h.0; touches = old.touches; open_branch = old.open_branch; clean = old.clean; table = old.table; body = old.body; second = old.second; made = old.made })
    (λ r key st c. change_fitting d b (overlaid d b xs) r key st t.wide few w old c)
    (λ name origin is. new_fitting d b (overlaid d b xs) name origin s old is)
    (λ name i is. record { room = old.room; touches = old.touches; open_branch = old.open_branch; clean = old.clean; table = old.table; body = old.body; second = old.second; made = old.made })
    (λ name prefer c is m. merge_fitting d b s tables few l prefer c (position-Some _ d.branches c no_branch is).0 (overlaid d b xs) old m)
