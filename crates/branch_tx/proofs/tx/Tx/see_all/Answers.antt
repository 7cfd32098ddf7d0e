use Rattle.std.proofs.Common.{◌≡◌, ◌∙◌, ◌∷◌, ◌++◌, ◌+◌, [], List, drop, ap, sym, subst, length, map}
use Rattle.std.specs.List.{All}
use Rattle.std.proofs.lemmas.List.Elements.{All-push}
use Rattle.std.proofs.lemmas.List.{map-append}
use Rattle.db_store.specs.SeenState.{seen_table}
use Rattle.db_store.specs.Table.{Table}
use Rattle.branch_tx.specs.Granted.{source_in, table_from}
use Rattle.branch_tx.specs.SeenFrom.{IsFrom}
use Rattle.branch_tx.proofs.SeenLemmas.{lack_step, tables_step}
use Rattle.branch_tx.proofs.tx.Tx.see_all.Goals as goal

pub loop-name-preserved : goal.loop-name-preserved
loop-name-preserved g c =
    let tx = c.args.self.now in
    let names = c.args.names.now in
    let n = c.loop-name.name-index in
    let v = c.name-item.result in
    let items = c.in_ok-push-in-Some.ensures.items in
    record {
      there = lack_step (source_in tx) names _ n v v c.loop-name-test.true (sym c.name-item.is) c.in-Some.ensures.some c.loop-name.invariant.there;
      tables = tables_step (λ u. table_from tx (source_in tx u)) names _ (map seen_table c.loop-name.all.items) n v v (seen_table c.in-Some.seen) c.loop-name-test.true (sym c.name-item.is) c.in-Some.ensures.table c.loop-name.invariant.tables
          ∙ ap (λ (ts : List Table). ts ++ map (λ u. table_from tx (source_in tx u)) (drop (n + 1) names)) (sym (map-append seen_table c.loop-name.all.items (c.in-Some.seen ∷ [])) ∙ ap (map seen_table) (sym items));
      wide = subst (All (λ s. length (seen_table s) ≡ length tx.schema)) (sym items) (All-push (λ s. length (seen_table s) ≡ length tx.schema) c.loop-name.all.items c.in-Some.seen c.loop-name.invariant.wide c.in-Some.ensures.wide);
      from = subst (All (IsFrom tx c.working-work.result.now)) (sym items) (All-push (IsFrom tx c.working-work.result.now) c.loop-name.all.items c.in-Some.seen c.loop-name.invariant.from c.in-Some.ensures.from);
    }
