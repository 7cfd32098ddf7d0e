use Rattle.std.proofs.Common.{◌≡◌, ℕ, ◌<◌, ◌+◌, ◌∷◌, [], ◌++◌, ◌∙◌, List, length, map, arith, ap, sym, subst}
use Rattle.std.specs.Arc.{arc_value}
use Rattle.std.proofs.lemmas.List.{length-map, length_push, map-append, get_or-map}
use Rattle.record_page.specs.Page.{Rows}
use Rattle.hybrid_view.specs.Live.{Lived, no_lived, lived_at, IsLived}
use Rattle.hybrid_store.specs.New.{own_at, first_lived}
use Rattle.hybrid_store.proofs.NewLemmas.{each_more}
use Rattle.hybrid_store.proofs.new.new_table.Goals as goal

pub new_live-requires : goal.new_live-requires
new_live-requires c =
    let i = c.loop-head.head-index in
    let lt : i < length c.args.heads.now = omega (arith, c.loop-head-test.true, c.loop-head.auto.head-index-end) in
    let item : arc_value c.head-item.result ≡ own_at (map arc_value c.args.heads.now) i = ap arc_value c.head-item.is ∙ sym (get_or-map arc_value c.args.heads.now i c.head-item.result (record { widths = []; records = [] }) lt) in
    ap (λ (x : Rows). x.records) item ∙ c.requires i lt

pub loop-head-preserved : goal.loop-head-preserved
loop-head-preserved c =
    let heads : List Rows = map arc_value c.args.heads.now in
    let i = c.loop-head.head-index in
    let lt : i < length c.args.heads.now = omega (arith, c.loop-head-test.true, c.loop-head.auto.head-index-end) in
    let item : arc_value c.head-item.result ≡ own_at (map arc_value c.args.heads.now) i = ap arc_value c.head-item.is ∙ sym (get_or-map arc_value c.args.heads.now i c.head-item.result (record { widths = []; records = [] }) lt) in
    let xs : List Lived = map arc_value c.loop-head.relations.items in
    let l : Lived = arc_value c.in_ok-new.field-0 in
    let is : map arc_value c.push.new.self.items ≡ xs ++ l ∷ [] = ap (map arc_value) c.in_ok-push.ensures.items ∙ map-append arc_value c.loop-head.relations.items (c.in_ok-new.field-0 ∷ []) in
    let m = length-map c.loop-head.relations.items arc_value in
    let k = length-map c.push.new.self.items arc_value in
    let n : length xs ≡ i = m ∙ c.loop-head.invariant.count in
    let long = ap (λ (ys : List Lived). length ys) is in
    let p = length_push xs l in
    record {
      count = omega (arith, long, k, p, n);
      each = subst (λ (ys : List Lived). (r : ℕ) → r < i + 1 → lived_at ys r ≡ first_lived (own_at heads r)) (sym is)
          (each_more (λ r (y : Lived). y ≡ first_lived (own_at heads r)) xs l no_lived i n c.loop-head.invariant.each (c.in_ok-new.ensures.ok ∙ c.in_ok-live.ensures ∙ ap first_lived item));
      lived = subst (λ (ys : List Lived). (r : ℕ) → r < i + 1 → IsLived (lived_at ys r)) (sym is)
          (each_more (λ r (y : Lived). IsLived y) xs l no_lived i n c.loop-head.invariant.lived (subst IsLived (sym c.in_ok-new.ensures.ok) c.told.ensures));
    }
