use Rattle.std.proofs.Common.{◌≡◌, ◌∙◌, true, map, sym, subst}
use Rattle.std.specs.Arc.{arc_value}
use Rattle.db_value.specs.declared.entry.Entry.{Entry}
use Rattle.db_value.specs.declared.entry.Entry.TheVariants.{Branch as NewBranch}
use Rattle.db_store.specs.Fits.{fits}
use Rattle.db_store.proofs.SoundLemmas.{branch_parts}
use Rattle.hybrid_store.specs.Store.{dataset_in, state_of}
use Rattle.hybrid_store.specs.ReadyBranch.{IsReadyBranch}
use Rattle.hybrid_store.proofs.ViewLemmas.{branch_is}
use Rattle.hybrid_store.proofs.store.HybridStoreStore.prepare_branch.Goals as goal

pub seen_at-requires : goal.seen_at-requires
seen_at-requires c =
    let s = c.args.self.now in
    let is : NewBranch c.name_of-name.result c.origin_of-origin.result ≡ c.args.entry.now = (λ i. NewBranch (c.name_of-name.ensures i) (c.origin_of-origin.ensures i)) ∙ branch_is c.args.entry.now c.requires.branch in
    (branch_parts (dataset_in s) c.name_of-name.result c.origin_of-origin.result (subst (λ (e : Entry). fits (dataset_in s) e ≡ true) (sym is) c.requires.fits)).made

pub is_last-at_head-requires : goal.is_last-at_head-requires
is_last-at_head-requires c =
    let s = c.args.self.now in
    let is : NewBranch c.name_of-name.result c.origin_of-origin.result ≡ c.args.entry.now = (λ i. NewBranch (c.name_of-name.ensures i) (c.origin_of-origin.ensures i)) ∙ branch_is c.args.entry.now c.requires.branch in
    (branch_parts (dataset_in s) c.name_of-name.result c.origin_of-origin.result (subst (λ (e : Entry). fits (dataset_in s) e ≡ true) (sym is) c.requires.fits)).made

pub begin_of-requires-clause-fits : goal.begin_of-requires-clause-fits
begin_of-requires-clause-fits c =
    let s = c.args.self.now in
    let is : NewBranch c.name_of-name.result c.origin_of-origin.result ≡ c.args.entry.now = (λ i. NewBranch (c.name_of-name.ensures i) (c.origin_of-origin.ensures i)) ∙ branch_is c.args.entry.now c.requires.branch in
    subst (λ (e : Entry). fits (dataset_in s) e ≡ true) (sym is) c.requires.fits

pub returns-clause-ready : goal.returns-clause-ready
returns-clause-ready c =
    let s = c.args.self.now in
    let is : NewBranch c.name_of-name.result c.origin_of-origin.result ≡ c.args.entry.now = (λ i. NewBranch (c.name_of-name.ensures i) (c.origin_of-origin.ensures i)) ∙ branch_is c.args.entry.now c.requires.branch in
    let p = c.in_ok-prepared.prepared in
    subst (λ (e : Entry). IsReadyBranch p.origin p.lane (map arc_value p.heads.items) p.turned (state_of s) e) is c.in_ok-prepared.ensures
