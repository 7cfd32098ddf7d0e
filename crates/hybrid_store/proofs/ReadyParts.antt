-- What is ready for an entry is ready for a commit.
use Rattle.std.proofs.Common.{◌≡◌, ℕ, true, List, refl, sym, subst, Option, Some, None}
use Rattle.std.specs.Prelude.{IfSome}
use Rattle.db_value.specs.declared.version.VersionPlace.{VersionPlace}
use Rattle.db_value.specs.declared.entry.Change.{Change}
use Rattle.db_value.specs.declared.entry.Entry.{Entry}
use Rattle.db_value.specs.declared.entry.Entry.TheVariants.{Commit, Branch as NewBranch}
use Rattle.record_page.specs.Page.{Rows}
use Rattle.commit_history.specs.Runs.{Next}
use Rattle.db_store.specs.Dataset.{Dataset, IsMade}
use Rattle.db_store.specs.Fits.{fits, second_fits, IsCommit, changes_of, second_of}
use Rattle.db_store.specs.Growth.{commit_parts, made_from}
use Rattle.db_store.specs.Layout.{Layout, dataset_in}
use Rattle.db_store.specs.State.{laid}
use Rattle.hybrid_view.specs.Live.{Lived}
use Rattle.store_catalogue.specs.Entries.{branch_of}
use Rattle.hybrid_store.specs.Ready.{IsMadeOf, IsReady}

pub record ReadyCommit (l : Layout) (b : ℕ) (second : Option VersionPlace) (nexts : List (List Next)) (head : List Lived) (owns : List Rows) (e : Entry) : Type 0 where
  pub changes : List Change
  pub entry : e ≡ Commit b second changes
  pub fit : fits (dataset_in l) e ≡ true
  pub commit : fits (dataset_in l) (Commit b second changes) ≡ true
  pub made : IsMadeOf l b second changes b second nexts head owns

pub ready_parts : (l : Layout) (b : ℕ) (second : Option VersionPlace) (nexts : List (List Next)) (head : List Lived) (owns : List Rows) (e : Entry) → IsReady b second nexts head owns (laid l) e → ReadyCommit l b second nexts head owns e
ready_parts l b second nexts head owns (Commit c third cs) r =
    let m = r.1 in
    let is : Commit c third cs ≡ Commit b second cs = λ i. Commit (sym m.branch i) (sym m.version i) cs in
    record {
      changes = cs;
      entry = is;
      fit = r.0;
      commit = subst (λ (e : Entry). fits (dataset_in l) e ≡ true) is r.0;
      made = subst (λ x. IsMadeOf l x second cs b second nexts head owns) (sym m.branch) (subst (λ (y : Option VersionPlace). IsMadeOf l c y cs b second nexts head owns) (sym m.version) m);
    }
ready_parts l b second nexts head owns (NewBranch name origin) r = absurd r.1

-- the second parent of a commit that fits is made
pub second_made : (d : Dataset) (b : ℕ) (second : Option VersionPlace) (cs : List Change) → fits d (Commit b second cs) ≡ true → IfSome second (λ p. IsMade d p)
second_made d b second cs f = by second (commit_parts d b second cs f).second
  where
    by : (o : Option VersionPlace) → second_fits d o ≡ true → IfSome o (λ p. IsMade d p)
    by None e = tt
    by (Some p) e = made_from d p e

-- a commit is one of its branch, second parent and changes
pub commit_is : (e : Entry) → IsCommit e → Commit (branch_of e) (second_of e) (changes_of e) ≡ e
commit_is (Commit b second cs) h = refl
commit_is (NewBranch name origin) h = absurd h
