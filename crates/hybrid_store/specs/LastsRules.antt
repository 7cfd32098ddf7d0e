-- A preparation serves on after a commit on another branch.
use Rattle.std.specs.Prelude.{◌≡◌, ◌≢◌, ℕ, List, [], length, map, Option, Some, None}
use Rattle.std.proofs.Common.{sym, subst, get_or}
use Rattle.std.proofs.lemmas.List.{get_or-set_other}
use Rattle.db_value.specs.declared.version.VersionPlace.{VersionPlace}
use Rattle.db_value.specs.declared.entry.Change.{Change}
use Rattle.db_value.specs.declared.entry.Entry.{Entry}
use Rattle.db_value.specs.declared.entry.Entry.TheVariants.{Commit, Branch as NewBranch}
use Rattle.record_page.specs.Page.{Rows}
use Rattle.db_store.specs.Fits.{AreApart}
use Rattle.store_catalogue.specs.Apart.{fits_apart}
use Rattle.db_store.specs.State.{State, grow, layout_after}
use Rattle.db_store.specs.Layout.{Segment, Lane, Layout, no_lane, lane_at, segments_at, rows_at}
use Rattle.db_store.specs.LayoutGrowth.{puts, segment_after, segments_after, last_in, lane_after, after_commit}
use Rattle.db_store.proofs.SegmentLemmas.{at_relation}
use Rattle.hybrid_view.specs.Live.{Lived, lived_at}
use Rattle.commit_history.specs.Runs.{Next}
use Rattle.db_value.specs.Relations.{widths_at}
use Rattle.bit_rows.specs.Kept.{nexts_at}
use Rattle.hybrid_store.specs.Ready.{IsMadeAt, IsMadeOf, IsNextOf, IsReady, no_own}
use Rattle.hybrid_store.specs.ReadyRules.{made_lasts}

-- what is made of a layout is made of it after a commit on another branch
made_on : (l : Layout) (c d : ℕ) (second third : Option VersionPlace) (cs others : List Change) (b : ℕ) (v : Option VersionPlace) (nexts : List (List Next)) (head : List Lived) (owns : List Rows) → c ≢ d → IsMadeOf l c second cs b v nexts head owns → IsMadeOf (after_commit l d third others) c second cs b v nexts head owns
made_on l c d second third cs others b v nexts head owns n m = record {
  branch = m.branch;
  version = m.version;
  ready = m.ready;
  wide = m.wide;
  counted = m.counted;
  at = λ r h.
      let x : Lane = lane_after l (segments_after l d others) (lane_at l d) third others in
      let lane : lane_at (after_commit l d third others) c ≡ lane_at l c = get_or-set_other l.lanes d c x no_lane n in
      let segs : segments_at (segments_after l d others) r ≡ map (segment_after d (puts others r)) (segments_at l.segments r) = at_relation l.schema (λ q. map (segment_after d (puts others q)) (segments_at l.segments q)) r [] h in
      subst (λ (y : Lane). IsMadeAt (segments_at (segments_after l d others) r) (widths_at l.schema r) c (last_in y) r cs (rows_at y r) (nexts_at nexts r) (lived_at head r) (get_or owns r no_own)) (sym lane)
      (subst (λ (ss : List Segment). IsMadeAt ss (widths_at l.schema r) c (last_in (lane_at l c)) r cs (rows_at (lane_at l c) r) (nexts_at nexts r) (lived_at head r) (get_or owns r no_own)) (sym segs)
      (made_lasts (segments_at l.segments r) c d (last_in (lane_at l c)) r cs (puts others r) n (widths_at l.schema r) (rows_at (lane_at l c) r) (nexts_at nexts r) (lived_at head r) (get_or owns r no_own) (m.at r h)));
}

-- the same, if there is a layout
next_on : (o : Option Layout) (c d : ℕ) (second third : Option VersionPlace) (cs others : List Change) (b : ℕ) (v : Option VersionPlace) (nexts : List (List Next)) (head : List Lived) (owns : List Rows) → c ≢ d → IsNextOf b v nexts head owns o (Commit c second cs) → IsNextOf b v nexts head owns (layout_after o (Commit d third others)) (Commit c second cs)
next_on None c d second third cs others b v nexts head owns n m = m
next_on (Some l) c d second third cs others b v nexts head owns n m = made_on l c d second third cs others b v nexts head owns n m

-- a commit on another branch leaves what is ready
pub ready_lasts : (b : ℕ) (v : Option VersionPlace) (nexts : List (List Next)) (head : List Lived) (owns : List Rows) (s : State) (e f : Entry) → IsReady b v nexts head owns s e → AreApart e f → IsReady b v nexts head owns (grow s f) e
ready_lasts b v nexts head owns s (Commit c second cs) (Commit d third others) r apart = (fits_apart s.dataset c second cs d third others apart r.0, next_on s.layout c d second third cs others b v nexts head owns apart r.1)
ready_lasts b v nexts head owns s (Commit c second cs) (NewBranch name origin) r apart = absurd apart
ready_lasts b v nexts head owns s (NewBranch name origin) f r apart = absurd apart
