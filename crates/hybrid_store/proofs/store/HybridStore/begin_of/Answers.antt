use Rattle.std.proofs.Common.{◌≡◌, ◌∙◌, [], ap, sym, subst, arith, length, map, refl, List}
use Rattle.std.specs.Arc.{arc_value}
use Rattle.std.proofs.lemmas.List.{length-map}
use Rattle.db_value.specs.Relations.{widths_at}
use Rattle.db_value.specs.declared.schema.Relation.{Relation}
use Rattle.record_page.specs.Page.{Rows}
use Rattle.hybrid_store.specs.New.{AreEmpty}
use Rattle.hybrid_store.specs.ReadyBranch.{IsBegunOf}
use Rattle.hybrid_store.specs.Store.{layout_of}
use Rattle.hybrid_store.proofs.store.HybridStore.begin_of.Goals as goal

pub lane_begun-requires-clause-heads : goal.lane_begun-requires-clause-heads
lane_begun-requires-clause-heads c =
    let s = c.args.self.now in
    let rel : c.relations.result.now ≡ s.schema = c.relations.ensures.value in
    let rl = ap (λ (rs : List Relation). length rs) rel in
    subst (λ (xs : List Rows). AreEmpty s.schema xs) (sym (ap (map arc_value) c.deref.ensures.value))
    (record {
      count = length-map c.in_ok-heads.heads.items arc_value ∙ c.in_ok-heads.ensures.count ∙ rl;
      each = λ r h. c.in_ok-heads.ensures.each r (omega (arith, h, rl)) ∙ ap (λ (rs : List Relation). record { widths = widths_at rs r; records = [] }) rel;
    })

pub returns : goal.returns
returns c = (
  c.requires.fits,
  (
    refl,
    (subst (λ (xs : List Rows). IsBegunOf (layout_of c.args.self.now) c.args.name c.args.origin c.in_ok-lane.lane xs) (ap (map arc_value) c.deref.ensures.value) c.in_ok-lane.ensures, c.in_ok-turned.ensures),
  ),
)
