-- What holds of a store after a commit that was ready is installed.
use Rattle.std.proofs.Common.{◌≡◌, ℕ, ◌-◌, ◌<◌, ◌≤◌, List, [], ◌∷◌, ◌++◌, length, set, get_or, Option, arith, ap, sym, ◌∙◌, subst}
use Rattle.std.specs.Prelude.{IfSome}
use Rattle.std.proofs.lemmas.List.{length_push}
use Rattle.db_value.specs.declared.schema.Relation.{Relation}
use Rattle.db_value.specs.declared.version.VersionPlace.{VersionPlace}
use Rattle.db_value.specs.declared.entry.Entry.{Entry}
use Rattle.record_page.specs.Page.{Rows}
use Rattle.commit_history.specs.Runs.{Next}
use Rattle.db_store.specs.Dataset.{Dataset, IsMade, apply, head_place}
use Rattle.db_store.specs.Growth.{commit_parts}
use Rattle.db_store.specs.Layout.{Layout, dataset_in}
use Rattle.db_store.specs.LayoutGrowth.{grow_layout}
use Rattle.db_store.specs.LaidOut.{IsLaid}
use Rattle.db_store.specs.Order.{lineage, next_parents, IsOrdered}
use Rattle.db_store.specs.Sound.{IsSound}
use Rattle.db_store.specs.State.{laid, grow}
use Rattle.db_store.proofs.LayoutLaw.{layout_law}
use Rattle.db_store.proofs.NewLayout.{layout_grows}
use Rattle.db_store.proofs.OrderMade.{lineage_commit}
use Rattle.db_store.proofs.StateLemmas.{head_made}
use Rattle.hybrid_view.specs.Live.{Lived}
use Rattle.store_catalogue.specs.ByName.{Numbers, AreNumbers}
use Rattle.store_catalogue.proofs.BranchLemmas.{numbers_commit}
use Rattle.bit_rows.specs.Rows.{kept_row_at, next_at, pushed_row}
use Rattle.bit_rows.specs.Kept.{KeptLane, no_kept, kept_rows, nexts_at}
use Rattle.hybrid_store.specs.Lanes.{kept_layout}
use Rattle.bit_rows.specs.Segments.{KeptList, no_list, list_at, kept_at}
use Rattle.hybrid_store.specs.Ready.{IsReady, no_own}
use Rattle.hybrid_store.specs.Stored.{head_number, kept_dataset, HasRoom, IsStored}
use Rattle.hybrid_store.proofs.CommitLemmas.{branch_there}
use Rattle.hybrid_store.proofs.GrownLemmas.{layout_is, stored_is}
use Rattle.hybrid_store.proofs.ReadyParts.{ReadyCommit, ready_parts, second_made}
use Rattle.hybrid_store.proofs.StoredLemmas.{kept_count, kept_versions}

-- room for one version fewer, after one more
pub room_after : (n : ℕ) (old new : KeptLane) (second : Option VersionPlace) (head : List Lived) → 0 < n → HasRoom n old
    → new ≡ record old { seconds = old.seconds ++ second ∷ []; rows = new.rows; head = head } → HasRoom (n - 1) new
room_after n old new second head h r is =
    let l = length_push old.seconds second in
    let m : length new.seconds ≡ length (old.seconds ++ second ∷ []) = ap (λ (k : KeptLane). length k.seconds) is in
    let room : new.room ≡ old.room = ap (λ (k : KeptLane). k.room) is in
    omega (arith, h, r, l, m, room)

pub less_room : (m n : ℕ) (k : KeptLane) → m ≤ n → HasRoom n k → HasRoom m k
less_room m n k h r = omega (arith, h, r)

module _ (schema : List Relation) (lanes : List KeptLane) (order : List VersionPlace) (segments : List KeptList) (b : ℕ) (second : Option VersionPlace) (nexts : List (List Next)) (head : List Lived) (owns : List Rows)
    (is : IsStored schema lanes segments) (whole : IsLaid (kept_layout schema lanes order segments)) (sound : IsSound (kept_dataset schema lanes order segments))
    (e : Entry) (r : IsReady b second nexts head owns (laid (kept_layout schema lanes order segments)) e) where
  abbrev l : Layout
  l = kept_layout schema lanes order segments

  abbrev d : Dataset
  d = kept_dataset schema lanes order segments

  pub parts : ReadyCommit (kept_layout schema lanes order segments) b second nexts head owns e
  parts = ready_parts l b second nexts head owns e r

  pub ready_there : b < length lanes
  ready_there = branch_there schema lanes order segments b second parts.changes parts.commit

  pub ready_second : IfSome second (λ p. IsMade (kept_dataset schema lanes order segments) p)
  ready_second = second_made d b second parts.changes parts.commit

  pub last_place : (n : ℕ) → n ≡ length (get_or lanes b no_kept).seconds → record { branch = b; position = n - 1 } ≡ head_place (kept_dataset schema lanes order segments) b
  last_place n at = ap (λ x. record { branch = b; position = x - 1 }) (at ∙ kept_versions schema lanes order segments b ready_there)

  pub last_made : (n : ℕ) → n ≡ length (get_or lanes b no_kept).seconds → IsMade (kept_dataset schema lanes order segments) (record { branch = b; position = n - 1 })
  last_made n at =
      let n = kept_count schema lanes order segments in
      let t = ready_there in
      subst (λ (p : VersionPlace). IsMade d p) (sym (last_place _ at)) (head_made d b sound (omega (arith, n, t)))

  pub numbers_added : (numbers : Numbers) → AreNumbers numbers (kept_dataset schema lanes order segments) → AreNumbers numbers (apply (kept_dataset schema lanes order segments) e)
  numbers_added numbers are = subst (λ (x : Entry). AreNumbers numbers (apply d x)) (sym parts.entry) (numbers_commit d b second parts.changes numbers are)

  pub lineage_added : IsOrdered (kept_dataset schema lanes order segments) → lineage (apply (kept_dataset schema lanes order segments) e) ≡ lineage (kept_dataset schema lanes order segments) ++ next_parents (kept_dataset schema lanes order segments) b second ∷ []
  lineage_added o = ap (λ (x : Entry). lineage (apply d x)) parts.entry ∙ lineage_commit d b second parts.changes sound o (commit_parts d b second parts.changes parts.commit)

  module _ (new : KeptLane) (news : List KeptList)
      (new_is : new ≡ record (get_or lanes b no_kept) { seconds = (get_or lanes b no_kept).seconds ++ second ∷ []; rows = new.rows; head = head })
      (wide : length new.rows ≡ length (get_or lanes b no_kept).rows)
      (counts : (r : ℕ) → r < length (get_or lanes b no_kept).rows → length (kept_rows new r) ≡ length (kept_rows (get_or lanes b no_kept) r))
      (each : (r i : ℕ) → r < length (get_or lanes b no_kept).rows → i < length (kept_rows (get_or lanes b no_kept) r) → kept_row_at (kept_rows new r) i ≡ pushed_row (kept_row_at (kept_rows (get_or lanes b no_kept) r) i) (next_at (nexts_at nexts r) i))
      (long : length news ≡ length segments)
      (put : (r : ℕ) → r < length segments → get_or news r no_list ≡ record (get_or segments r no_list) { all = set (list_at segments r) (head_number segments b r) (record (kept_at (list_at segments r) (head_number segments b r)) { rows = get_or owns r no_own }) }) where
    pub layout_added : kept_layout schema (set lanes b new) (order ++ record { branch = b; position = length (get_or lanes b no_kept).seconds } ∷ []) news ≡ grow_layout (kept_layout schema lanes order segments) e
    layout_added = layout_is schema lanes order segments b second parts.changes nexts head owns ready_there is whole parts.made new news new_is wide counts each long put ∙ ap (grow_layout l) (sym parts.entry)

    pub state_added : laid (kept_layout schema (set lanes b new) (order ++ record { branch = b; position = length (get_or lanes b no_kept).seconds } ∷ []) news) ≡ grow (laid (kept_layout schema lanes order segments)) e
    state_added = ap laid layout_added ∙ sym (layout_grows l e whole parts.fit)

    pub dataset_added : kept_dataset schema (set lanes b new) (order ++ record { branch = b; position = length (get_or lanes b no_kept).seconds } ∷ []) news ≡ apply (kept_dataset schema lanes order segments) e
    dataset_added = ap dataset_in layout_added ∙ layout_law l e whole parts.fit

    pub stored_added : IsStored schema (set lanes b new) news
    stored_added = stored_is schema lanes order segments b second parts.changes nexts head owns ready_there is whole parts.made new news new_is wide counts each long put
