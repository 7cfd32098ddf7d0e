use Rattle.std.proofs.Common.{◌≡◌, ◌∙◌, ◌<◌, ℕ, ap, sym, subst, map, length, arith, List, None}
use Rattle.std.specs.List.{All}
use Rattle.db_value.specs.Schema.{most_relations}
use Rattle.std.specs.Prelude.{IfSome}
use Rattle.db_value.specs.Pred.{pred_holds}
use Rattle.db_value.specs.declared.version.VersionName.{VersionName}
use Rattle.db_store.specs.SeenState.{seen_table, seen_parts}
use Rattle.branch_tx.specs.Found.{first_lacking}
use Rattle.branch_tx.specs.Granted.{Granted, source_in, table_from, views_of}
use Rattle.branch_tx.specs.Shown.{ViewsAgree}
use Rattle.branch_tx.specs.SeenFrom.{AreFrom, IsApart}
use Rattle.multi_scan.specs.Agree.{AllAgree}
use Rattle.multi_scan.specs.Places.{shown}
use Rattle.branch_tx.proofs.SeenAgree.{seen_agree}
use Rattle.branch_tx.proofs.SeenLemmas.{listed_seen}
use Rattle.branch_tx.proofs.tx.Tx.scan_versions.Goals as goal

pub returns-in_ok-rows-in-Some : goal.returns-in_ok-rows-in-Some
returns-in_ok-rows-in-Some g c =
    let tx : Granted = c.args.self.now in
    let none = subst (λ (names : List VersionName). first_lacking (map (source_in tx) names) ≡ None) c.as_slice.ensures
    (subst (λ o. IfSome o (λ v. first_lacking (map (source_in tx) c.as_slice.result.now) ≡ None)) c.in-Some.is c.in_ok-see_all.ensures.some) in
    let tables = subst (λ (names : List VersionName). map seen_table c.in-Some.views.items ≡ map (λ v. table_from tx (source_in tx v)) names) c.as_slice.ensures
    (subst (λ o. IfSome o (λ v. map seen_table v.items ≡ map (λ n. table_from tx (source_in tx n)) c.as_slice.result.now)) c.in-Some.is c.in_ok-see_all.ensures.tables) in
    listed_seen tx (pred_holds c.args.pred.now) c.args.relation c.args.names c.in_ok-rows-in-Some.rows _ none c.in_ok-rows-in-Some.ensures (ap (map seen_table) c.deref-in-Some.ensures.value ∙ tables)

pub scan_rows-requires-clause-agree : goal.scan_rows-requires-clause-agree
scan_rows-requires-clause-agree g c =
    let tx : Granted = c.args.self.now in
    let r : ℕ = c.args.relation in
    let views = c.in-Some.views.items in
    let from : AreFrom tx views = subst (λ o. IfSome o (λ v. AreFrom tx v.items)) c.in-Some.is c.in_ok-see_all.ensures.from in
    let apart : All (λ s. IsApart s r) views = subst (All (λ s. IsApart s r)) c.deref.ensures.value (c.are_apart.ensures c.if-not-are_apart.false) in
    let wide = ap (λ (x : Granted). length x.schema) c.self.view_is in
    let few = c.self.inside.work.viewable.relations in
    let small : r < most_relations = omega (arith, c.requires, wide, c.self.invariant.0, few) in
    let agree : ViewsAgree (views_of tx) = subst (λ (x : Granted). ViewsAgree (views_of x)) c.self.view_is c.self.invariant.2 in
    subst (λ vs. AllAgree (shown seen_parts r vs)) (sym c.deref-in-Some.ensures.value) (seen_agree tx r views small agree from apart)
