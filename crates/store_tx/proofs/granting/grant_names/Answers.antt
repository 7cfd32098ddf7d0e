use Rattle.std.proofs.Common.{◌∙◌, ℕ, List, take, ap, sym}
use Rattle.std.specs.List.{list_all}
use Rattle.std.proofs.lemmas.Bool.{and_from}
use Rattle.std.proofs.lemmas.List.Folds.{list_all_more}
use Rattle.db_value.specs.declared.version.VersionName.{VersionName}
use Rattle.db_store.specs.State.{dataset_of}
use Rattle.db_store.specs.Found.{found}
use Rattle.branch_tx.specs.Found.{source_of}
use Rattle.lock_table.specs.Rows.{Row}
use Rattle.line_needs.specs.Needs.{found_needs, names_needs}
use Rattle.store_tx.specs.Keeps.{AllGranted}
use Rattle.branch_tx.specs.Covers.{has_version}
use Rattle.branch_tx.specs.Granted.{Granted}
use Rattle.branch_tx.proofs.SeenLemmas.{lack_step}
use Rattle.store_tx.proofs.KeepsLemmas.{named_needs, has_same, more_more, versions_stay}
use Rattle.store_tx.proofs.granting.grant_names.Goals as goal

pub grant_version-requires : goal.grant_version-requires
grant_version-requires g c =
    let k = c.requires.needs in
    record { kept = record { there = k.kept.there; rows = k.kept.rows; session = k.kept.session; keeps = c.loop-name.invariant.keeps k.kept.rows k.kept.session k.kept.keeps k.granted; shown = c.loop-name.invariant.shown } }

pub returns-in-Some-clause-keeps : goal.returns-in-Some-clause-keeps
returns-in-Some-clause-keeps g c = λ rows s k n.
    let d = dataset_of (g.St.Store.state c.args.store.now) in
    c.in_ok-why.ensures.keeps rows s (c.loop-name.invariant.keeps rows s k n) (named_needs d rows s c.args.names.now c.loop-name.name-index c.name-item.result _ c.loop-name-test.true (sym c.name-item.is) n)

pub loop-name-preserved : goal.loop-name-preserved
loop-name-preserved g c =
    let store = c.args.store.now in
    let d = dataset_of (g.St.Store.state store) in
    let b = c.args.branch in
    let names = c.args.names.now in
    let i = c.loop-name.name-index in
    let v : VersionName = c.name-item.result in
    let tx : Granted = c.loop-name.tx in
    let after : Granted = c.grant_version.new.tx in
    let inv = c.loop-name.invariant in
    let k = c.requires.needs in
    let needed : (rows : List Row) (s : ℕ) → AllGranted rows s (names_needs d names) → AllGranted rows s (found_needs (found d v)) = λ rows s n. named_needs d rows s names i v _ c.loop-name-test.true (sym c.name-item.is) n in
    let kept = c.in_ok-why.ensures.keeps k.kept.rows k.kept.session (inv.keeps k.kept.rows k.kept.session k.kept.keeps k.granted) (needed k.kept.rows k.kept.session k.granted) in
    let one = c.in_ok-why.ensures.granted c.in-None.is in
    let same = has_same d k.kept.rows k.kept.session b after kept (g.met.St.Store.sound store) k.kept.there v one in
    record {
      keeps = λ rows s h n. c.in_ok-why.ensures.keeps rows s (inv.keeps rows s h n) (needed rows s n);
      granted = list_all_more (has_version after) names i _ c.loop-name-test.true ∙ and_from (list_all (has_version after) (take i names)) _ (versions_stay tx after c.in_ok-why.ensures.more.more (take i names) inv.granted) (ap (has_version after) (sym c.name-item.is) ∙ one);
      there = lack_step (λ u. source_of b (found d u)) names _ i v _ c.loop-name-test.true (sym c.name-item.is) same.there inv.there;
      shown = c.in_ok-why.ensures.more.shown;
      more = more_more c.args.tx.now tx after inv.more c.in_ok-why.ensures.more.more;
    }
