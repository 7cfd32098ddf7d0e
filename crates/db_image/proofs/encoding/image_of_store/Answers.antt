use Rattle.std.proofs.Common.{◌≤◌, ◌∙◌, List, [], length, get_or, ap, sym, subst, arith}
use Rattle.db_value.specs.Relations.{is_counted, widths_at}
use Rattle.db_value.specs.declared.schema.Relation.{Relation}
use Rattle.db_store.proofs.SegmentLemmas.{length_by}
use Rattle.hybrid_store.specs.Store.{layout_of}
use Rattle.image_text.specs.declared.image.SegmentPart.{SegmentPart}
use Rattle.image_text.specs.Spelling.{FitsSegments}
use Rattle.db_image.proofs.FitsRelations.{all_fit}
use Rattle.db_image.specs.Images.{segments_image}
use Rattle.db_image.proofs.FewColumns.{all_columns, few_relations}
use Rattle.db_image.proofs.encoding.image_of_store.Goals as goal

pub relations_image-requires : goal.relations_image-requires
relations_image-requires c = all_columns c.relations.result.now (ap is_counted c.relations.ensures.value ∙ c.relations.ensures.counted)

pub returns-clause-value : goal.returns-clause-value
returns-clause-value c =
    let relations = c.in_ok-relations.ensures.value ∙ c.relations.ensures.value ∙ c.schema.ensures in
    λ i. record { relations = relations i; branches = c.in_ok-branches.ensures.value i; versions = c.in_ok-versions.ensures.value i; segments = c.in_ok-segments.ensures.value i }

pub returns-clause-fits : goal.returns-clause-fits
returns-clause-fits c =
    let relations = c.in_ok-relations.ensures.value ∙ c.relations.ensures.value ∙ c.schema.ensures in
    let few : length c.schema.result.now ≤ 8 = few_relations c.schema.result.now c.relations.ensures.counted in
    let same = ap (λ (xs : List Relation). length xs) (c.in_ok-relations.ensures.value ∙ c.relations.ensures.value) in
    record {
      relations_few = omega (arith, few, same);
      relations = c.in_ok-relations.ensures.fits;
      branches_few = c.in_ok-branches.ensures.few;
      branches = c.in_ok-branches.ensures.short;
      versions_few = c.in_ok-versions.ensures.few;
      same_count =
          ap (λ (xs : List (List SegmentPart)). length xs) c.in_ok-segments.ensures.value
          ∙ length_by (layout_of c.args.store.now).schema (segments_image (layout_of c.args.store.now))
          ∙ sym (ap (λ (xs : List Relation). length xs) relations);
      segments = all_fit c.in_ok-relations.relations c.in_ok-segments.segments (λ r h k.
          subst (λ (rs : List Relation). FitsSegments (widths_at rs r) (get_or c.in_ok-segments.segments r [])) (sym relations)
          (c.in_ok-segments.ensures.fits r (let n = ap (λ (xs : List Relation). length xs) relations in omega (arith, n, h))));
    }
