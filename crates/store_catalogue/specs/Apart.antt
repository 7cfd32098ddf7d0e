-- A commit on another branch leaves whether a commit fits, and the table that it changes.
use Rattle.std.specs.Prelude.{◌≡◌, ◌≢◌, ℕ, ◌<◌, ◌-◌, true, List, length, Option, Some, None}
use Rattle.std.proofs.Common.{ap, sym, ◌∙◌, subst, get_or}
use Rattle.std.proofs.lemmas.List.{get_or-set_other}
use Rattle.db_value.specs.declared.version.VersionPlace.{VersionPlace}
use Rattle.db_value.specs.declared.entry.Change.{Change}
use Rattle.db_value.specs.declared.entry.Entry.{Entry}
use Rattle.db_value.specs.declared.entry.Entry.TheVariants.{Commit}
use Rattle.db_store.specs.Table.{with_changes}
use Rattle.db_store.specs.Dataset.{Branch, Dataset, no_version, branch_at, no_branch, head_of, grown, apply}
use Rattle.db_store.specs.Fits.{fits, second_fits, is_within, most_versions}
use Rattle.db_store.specs.Growth.{commit_parts, commit_from, made_from, made_test, made_stays, branches_stay}

second_stays : (d : Dataset) (e : Entry) (o : Option VersionPlace) → second_fits d o ≡ true → second_fits (apply d e) o ≡ true
second_stays d e None f = f
second_stays d e (Some at) f = made_test (apply d e) at (made_stays d e at (made_from d at f))

-- a commit on another branch leaves a branch as it is
other_branch : (d : Dataset) (b c : ℕ) (third : Option VersionPlace) (others : List Change) → b ≢ c → branch_at (apply d (Commit c third others)) b ≡ branch_at d b
other_branch d b c third others n = get_or-set_other d.branches c b (grown (branch_at d c) (with_changes (head_of d c) others) third) no_branch n

-- and the table that changes make of its last one
pub other_head : (d : Dataset) (b c : ℕ) (third : Option VersionPlace) (others changes : List Change) → b ≢ c
    → with_changes (head_of (apply d (Commit c third others)) b) changes ≡ with_changes (head_of d b) changes
other_head d b c third others changes n = ap (λ (x : Branch). with_changes (get_or x.versions (length x.versions - 1) no_version).table changes) (other_branch d b c third others n)

pub fits_apart : (d : Dataset) (b : ℕ) (second : Option VersionPlace) (changes : List Change) (c : ℕ) (third : Option VersionPlace) (others : List Change) → b ≢ c
    → fits d (Commit b second changes) ≡ true → fits (apply d (Commit c third others)) (Commit b second changes) ≡ true
fits_apart d b second changes c third others n f =
    let p = commit_parts d b second changes f in
    commit_from (apply d (Commit c third others)) b second changes (record {
      there = branches_stay d (Commit c third others) b p.there;
      room = subst (λ (x : Branch). length x.versions < most_versions) (sym (other_branch d b c third others n)) p.room;
      second = second_stays d (Commit c third others) second p.second;
      makes = p.makes;
      changes = p.changes;
      within = ap is_within (other_head d b c third others changes n) ∙ p.within;
    })
