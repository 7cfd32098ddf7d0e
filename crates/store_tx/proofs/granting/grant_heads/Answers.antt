use Rattle.std.proofs.Common.{◌≡◌, ◌∙◌, ap, sym, subst, List, map, true}
use Rattle.std.specs.List.{list_all}
use Rattle.db_value.specs.declared.version.VersionName.{VersionName}
use Rattle.db_store.specs.State.{dataset_of}
use Rattle.db_store.specs.Found.{plain, branch_names}
use Rattle.branch_tx.specs.Granted.{Granted}
use Rattle.branch_tx.specs.Covers.{has_heads, has_version}
use Rattle.line_needs.specs.Needs.{names_needs}
use Rattle.store_tx.specs.Keeps.{AllGranted, Keeps}
use Rattle.store_tx.proofs.KeepsLemmas.{heads_needs, with_heads, heads_keeps, heads_had}
use Rattle.store_tx.proofs.granting.grant_heads.Goals as goal

pub grant_names-requires : goal.grant_names-requires
grant_names-requires g c =
    let store = c.args.store.now in
    let d = dataset_of (g.St.Store.state store) in
    let k = c.requires.needs in
    let names : c.as_slice-2.result.now ≡ map plain (branch_names d) = c.as_slice-2.ensures ∙ c.in_ok-names.ensures ∙ ap (map plain) (c.as_slice.ensures ∙ c.in_ok-heads.ensures) in
    record { needs = record { kept = k.kept; granted = subst (λ (ns : List VersionName). AllGranted k.kept.rows k.kept.session (names_needs d ns)) (sym names) (heads_needs d k.kept.rows k.kept.session c.args.branch (g.met.St.Store.sound store) k.granted) } }

pub returns-in-Some-clause-keeps : goal.returns-in-Some-clause-keeps
returns-in-Some-clause-keeps g c = λ rows s k n.
    let store = c.args.store.now in
    let d = dataset_of (g.St.Store.state store) in
    let names : c.as_slice-2.result.now ≡ map plain (branch_names d) = c.as_slice-2.ensures ∙ c.in_ok-names.ensures ∙ ap (map plain) (c.as_slice.ensures ∙ c.in_ok-heads.ensures) in
    c.in_ok-why.ensures.keeps rows s k (subst (λ (ns : List VersionName). AllGranted rows s (names_needs d ns)) (sym names) (heads_needs d rows s c.args.branch (g.met.St.Store.sound store) n))

pub returns-clause-keeps : goal.returns-clause-keeps
returns-clause-keeps g c = λ rows s k n.
    let store = c.args.store.now in
    let d = dataset_of (g.St.Store.state store) in
    let names : c.as_slice-2.result.now ≡ map plain (branch_names d) = c.as_slice-2.ensures ∙ c.in_ok-names.ensures ∙ ap (map plain) (c.as_slice.ensures ∙ c.in_ok-heads.ensures) in
    let kept = c.in_ok-why.ensures.keeps rows s k (subst (λ (ns : List VersionName). AllGranted rows s (names_needs d ns)) (sym names) (heads_needs d rows s c.args.branch (g.met.St.Store.sound store) n)) in
    subst (Keeps d rows s c.args.branch) (ap (with_heads c.grant_names.new.tx) (sym c.in_ok-heads.ensures) ∙ sym c.in_ok-lend_heads-in-None.ensures.ok) (heads_keeps d rows s c.args.branch c.grant_names.new.tx kept n)

pub returns-clause-granted : goal.returns-clause-granted
returns-clause-granted g c = λ e.
    let d = dataset_of (g.St.Store.state c.args.store.now) in
    let tx : Granted = c.grant_names.new.tx in
    let names : c.as_slice-2.result.now ≡ map plain c.in_ok-heads.heads = c.as_slice-2.ensures ∙ c.in_ok-names.ensures ∙ ap (map plain) c.as_slice.ensures in
    let all = subst (λ (ns : List VersionName). list_all (has_version tx) ns ≡ true) names (c.in_ok-why.ensures.granted c.in-None.is) in
    subst (λ (h : Granted). has_heads h h.heads ≡ true) (sym c.in_ok-lend_heads-in-None.ensures.ok) (heads_had tx c.in_ok-heads.heads all)
