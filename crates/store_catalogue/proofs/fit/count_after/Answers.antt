use Rattle.std.proofs.Common.{◌≡◌, ◌<◌, ◌≤◌, ◌+◌, ◌==◌, ◌∙◌, Bool, true, false, List, ap, sym, ℕ, arith, cond, drop, length, is_some}
use Rattle.std.proofs.lemmas.Bool.{eq-eqb, ne_eqb}
use Rattle.std.proofs.lemmas.List.{drop_all}
use Rattle.std.specs.FinMap as finite
use Rattle.db_value.specs.PackedChanges.{change_here}
use Rattle.db_value.specs.declared.entry.Change.{Change}
use Rattle.db_store.specs.Table.{Contents, relation_at}
use Rattle.db_store.specs.Counts.{recounted, counted}
use Rattle.db_store.proofs.CountLemmas.{counted_is, after_is, ascending_differ, counted_next, recounted_few}
use Rattle.store_catalogue.proofs.fit.count_after.Goals as goal

pub recount-count-requires : goal.recount-count-requires
recount-count-requires g c = omega (arith, c.loop-at.invariant.few, c.loop-at-test.true, c.len-at-end.ensures.few)

pub loop-at-preserved-then-own-relation : goal.loop-at-preserved-then-own-relation
loop-at-preserved-then-own-relation g c =
    let r : ℕ = c.args.relation in
    let m : Contents = relation_at (g.T.KeyedTable.table_of c.args.table.now) r in
    let changes : List Change = c.args.changes.now in
    let i : ℕ = c.loop-at.at in
    let here : i < length changes = omega (arith, c.loop-at-test.true, c.len-at-end.ensures) in
    let one : Change = change_here changes i in
    let other : (one.relation == r) ≡ false = ne_eqb one.relation r (λ e. c.if-own-relation.true (c.relation-own.ensures ∙ e)) in
    record {
      counts =
          ap (λ n. counted r m n (drop (i + 1) changes)) (sym (ap (λ (b : Bool). cond b (recounted c.loop-at.count (is_some (finite.get m one.key)) (is_some one.fields)) c.loop-at.count) other))
          ∙ counted_next r m c.loop-at.count changes i here
          ∙ c.loop-at.invariant.counts;
      few = omega (arith, c.loop-at.invariant.few);
    }

pub loop-at-preserved : goal.loop-at-preserved
loop-at-preserved g c =
    let r : ℕ = c.args.relation in
    let m : Contents = relation_at (g.T.KeyedTable.table_of c.args.table.now) r in
    let changes : List Change = c.args.changes.now in
    let i : ℕ = c.loop-at.at in
    let here : i < length changes = omega (arith, c.loop-at-test.true, c.len-at-end.ensures) in
    let one : Change = change_here changes i in
    let own : (one.relation == r) ≡ true = eq-eqb one.relation r (sym c.relation-own.ensures ∙ c.if-own-relation.false) in
    let is : c.recount-count.result ≡ recounted c.loop-at.count (is_some (finite.get m one.key)) (is_some one.fields) =
    c.recount-count.ensures
    ∙ ap (λ (b : Bool). recounted c.loop-at.count b c.puts.result) (c.has.ensures ∙ ap (λ k. is_some (finite.get m k)) c.key-key.ensures)
    ∙ ap (recounted c.loop-at.count (is_some (finite.get m one.key))) c.puts.ensures in
    record {
      counts =
          ap (λ n. counted r m n (drop (i + 1) changes)) (is ∙ sym (ap (λ (b : Bool). cond b (recounted c.loop-at.count (is_some (finite.get m one.key)) (is_some one.fields)) c.loop-at.count) own))
          ∙ counted_next r m c.loop-at.count changes i here
          ∙ c.loop-at.invariant.counts;
      few = let k = recounted_few c.loop-at.count (is_some (finite.get m one.key)) (is_some one.fields) in omega (arith, k, is, c.loop-at.invariant.few);
    }

pub returns : goal.returns
returns g c =
    let t = g.T.KeyedTable.table_of c.args.table.now in
    let r : ℕ = c.args.relation in
    let m : Contents = relation_at t r in
    let changes : List Change = c.args.changes.now in
    sym (ap (counted r m c.loop-at.count) (drop_all c.loop-at.at changes (omega (arith, c.loop-at-test.false, c.len-at-end.ensures))))
    ∙ c.loop-at.invariant.counts
    ∙ counted_is r m changes (ascending_differ changes c.requires.ascending)
    ∙ ap (λ (n : Contents). finite.len n) (sym (after_is t changes r c.requires.relation))
