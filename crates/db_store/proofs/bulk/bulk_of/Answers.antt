use Rattle.std.proofs.Common.{◌≡◌, ◌<◌, ◌≤◌, ◌+◌, ◌*◌, ◌∙◌, ℕ, List, [], true, false, Some, None, is_some, cond, arith, ap, sym, drop, map, length, get_or, nat_lt}
use Rattle.std.proofs.lemmas.Bool.{ltb-true}
use Rattle.std.proofs.lemmas.List.{drop_all, get_or_default}
use Rattle.db_value.specs.PackedChanges.{change_here}
use Rattle.db_value.specs.declared.entry.Change.{Change}
use Rattle.db_store.specs.declared.bulk.Bulk.{Bulk}
use Rattle.db_store.specs.Body.{changes_size}
use Rattle.db_store.specs.Bulk.{text_count, bulk_of, weight, with_own}
use Rattle.db_store.specs.Overlay.{own_widths}
use Rattle.db_store.proofs.AdoptLemmas.{all_here, next_change}
use Rattle.db_store.proofs.BodyLemmas.{same_bulk, next_bulk, widths_beside}
use Rattle.db_store.proofs.bulk.bulk_of.Goals as goal

pub loop-at-init : goal.loop-at-init
loop-at-init c = let none = c.none-none.ensures in record {
  plain = omega (arith, ap (λ (t : Bulk). t.plain) none);
  wide = omega (arith, ap (λ (t : Bulk). t.wide) none);
  texts = omega (arith, ap (λ (t : Bulk). t.texts) none);
  small_plain = omega (arith, ap (λ (t : Bulk). t.plain) none);
  small_wide = omega (arith, ap (λ (t : Bulk). t.wide) none);
  small_texts = omega (arith, ap (λ (t : Bulk). t.texts) none);
}

pub exchange-bulk-requires-clause-plain : goal.exchange-bulk-requires-clause-plain
exchange-bulk-requires-clause-plain c = omega (arith, ap (λ (t : Bulk). t.plain) c.none-none.ensures)

pub exchange-bulk-requires-clause-small_plain : goal.exchange-bulk-requires-clause-small_plain
exchange-bulk-requires-clause-small_plain c = omega (arith, c.loop-at.invariant.small_plain, c.loop-at-test.true, c.len-at-end.ensures, c.requires.few)

pub exchange-bulk-requires-clause-wide : goal.exchange-bulk-requires-clause-wide
exchange-bulk-requires-clause-wide c = omega (arith, ap (λ (t : Bulk). t.wide) c.none-none.ensures)

pub exchange-bulk-requires-clause-small_wide : goal.exchange-bulk-requires-clause-small_wide
exchange-bulk-requires-clause-small_wide c = omega (arith, c.loop-at.invariant.small_wide, c.loop-at-test.true, c.len-at-end.ensures, c.requires.few)

pub exchange-bulk-requires-clause-texts : goal.exchange-bulk-requires-clause-texts
exchange-bulk-requires-clause-texts c = omega (arith, ap (λ (t : Bulk). t.texts) c.none-none.ensures)

pub exchange-bulk-requires-clause-small_texts : goal.exchange-bulk-requires-clause-small_texts
exchange-bulk-requires-clause-small_texts c = omega (arith, c.loop-at.invariant.small_texts, c.loop-at-test.true, c.len-at-end.ensures, c.requires.few)

pub loop-at-preserved : goal.loop-at-preserved
loop-at-preserved c =
    let cs : List Change = c.args.changes.now in
    let wss : List (List ℕ) = c.args.widths.now in
    let i : ℕ = c.loop-at.at in
    let here : i < length cs = omega (arith, c.loop-at-test.true, c.len-at-end.ensures) in
    let one : Change = change_here cs i in
    let within = ltb-true one.relation (length wss) (all_here (λ d. nat_lt d.relation (length wss)) cs i here c.requires.relations) in
    let at : c.relation-relation.result ≡ one.relation = c.relation-relation.ensures in
    let own : c.index-widths-relation.result ≡ own_widths wss one.relation =
    c.index-widths-relation.is
    ∙ ap (λ n. get_or wss n c.index-widths-relation.result) at
    ∙ get_or_default wss one.relation c.index-widths-relation.result [] within in
    let added = next_bulk c.loop-at.bulk c.none-none.result c.exchange-bulk.result (cond c.puts.result (Some c.index-widths-relation.result) None) wss cs i here c.none-none.ensures c.exchange-bulk.ensures.bulk
    (ap (λ (ws : List ℕ). cond c.puts.result (Some ws) None) own ∙ ap (λ b. cond b (Some (own_widths wss one.relation)) None) c.puts.ensures ∙ widths_beside (own_widths wss one.relation) one.fields) in
    record {
      plain = added.plain ∙ c.loop-at.invariant.plain;
      wide = added.wide ∙ c.loop-at.invariant.wide;
      texts = added.texts ∙ c.loop-at.invariant.texts;
      small_plain = omega (arith, c.exchange-bulk.ensures.more_plain, c.loop-at.invariant.small_plain);
      small_wide = omega (arith, c.exchange-bulk.ensures.more_wide, c.loop-at.invariant.small_wide);
      small_texts = omega (arith, c.exchange-bulk.ensures.more_texts, c.loop-at.invariant.small_texts);
    }

pub returns : goal.returns
returns c =
    let cs : List Change = c.args.changes.now in
    let wss : List (List ℕ) = c.args.widths.now in
    let past : drop c.loop-at.at cs ≡ [] = drop_all c.loop-at.at cs (omega (arith, c.loop-at-test.false, c.len-at-end.ensures)) in
    let left = λ (f : List Change → ℕ). ap (λ (ds : List Change). f (map (with_own wss) ds)) past in
    same_bulk c.loop-at.bulk (bulk_of (map (with_own wss) cs))
    (omega (arith, c.loop-at.invariant.plain, left (changes_size false)))
    (omega (arith, c.loop-at.invariant.wide, left (changes_size true)))
    (omega (arith, c.loop-at.invariant.texts, left text_count))
