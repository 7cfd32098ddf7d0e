use Rattle.std.proofs.Common.{◌≡◌, ◌==◌, ◌+◌, ◌<◌, ◌++◌, ◌∷◌, [], ℕ, Bool, cond, List, length, take, drop, Option, arith, ap, sym, ◌∙◌}
use Rattle.std.specs.Prelude.{is_some}
use Rattle.std.proofs.lemmas.List.{length-append}
use Rattle.db_value.specs.PackedChanges.{change_here}
use Rattle.db_value.specs.declared.record.Record.{Record}
use Rattle.db_value.specs.declared.entry.Change.{Change}
use Rattle.db_store.specs.Counts.{recounted, counted}
use Rattle.db_store.proofs.CountLemmas.{counted_next}
use Rattle.db_store.specs.LayoutGrowth.{puts}
use Rattle.db_store.specs.Table.{Contents}
use Rattle.hybrid_view.specs.Live.{Piece, contents_in}
use Rattle.hybrid_view.specs.Struck.{touched_place, touched_places}
use Rattle.hybrid_view.proofs.PutLemmas.{puts_drop}
use Rattle.hybrid_view.proofs.TouchLemmas.{keys_more, touched_more}
use Rattle.hybrid_view.proofs.live.LiveRelation.touched.Goals as goal

pub loop-at-preserved : goal.loop-at-preserved
loop-at-preserved c =
    let i : ℕ = c.loop-at.at in
    let r : ℕ = c.args.relation in
    let cs : List Change = c.args.changes.now in
    let z : Change = change_here cs i in
    let m : Contents = contents_in c.args.self.now in
    let n : ℕ = c.loop-at.keys in
    let ps : List Piece = c.args.self.now.pieces in
    let one : List Record = puts (z ∷ []) r in
    let rest : List Record = puts (drop (i + 1) cs) r in
    let within : i < length cs = omega (arith, c.loop-at-test.true, c.len-at-end.ensures) in
    let split : puts (drop i cs) r ≡ one ++ rest = puts_drop cs r i within in
    let all = ap (λ (xs : List Record). length xs) split in
    let both = length-append one rest in
    let put = c.count_put-puts.ensures.count in
    let put_few = c.count_put-puts.ensures.few in
    let before = c.loop-at.invariant.puts in
    let few = c.loop-at.invariant.few in
    let few_keys = c.loop-at.invariant.few_keys in
    let key_more = c.keys_with-keys.ensures.few in
    let there : c.is_some.result ≡ is_some (touched_place c.args.self.now.pieces r z) = c.is_some.ensures ∙ ap is_some c.place_at-place.ensures in
    record {
      places = c.in_ok-push.ensures.items
          ∙ ap (λ (os : List (Option (ℕ × ℕ))). os ++ c.place_at-place.result ∷ []) c.loop-at.invariant.places
          ∙ ap (λ (o : Option (ℕ × ℕ)). touched_places ps (take i cs) r ++ o ∷ []) c.place_at-place.ensures
          ∙ sym (touched_more ps cs r i within);
      keys = ap (λ (k : ℕ). counted r m k (drop (i + 1) cs)) (c.keys_with-keys.ensures.keys ∙ ap (λ (w : Bool). cond (z.relation == r) (recounted n w (is_some z.fields)) n) there ∙ keys_more c.args.self.now r z n)
          ∙ counted_next r m n cs i within
          ∙ c.loop-at.invariant.keys;
      few_keys = omega (arith, few_keys, key_more);
      puts = omega (arith, all, both, put, before);
      few = omega (arith, few, put_few);
    }
