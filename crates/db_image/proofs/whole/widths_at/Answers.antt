use Rattle.std.proofs.Common.{◌≡◌, ◌∙◌, ap, get_or, true, List, map}
use Rattle.std.proofs.lemmas.List.{get_or_default}
use Rattle.db_value.specs.Width.{are_widths}
use Rattle.db_value.specs.Relations.{no_relation}
use Rattle.db_value.specs.declared.schema.Column.{Column}
use Rattle.db_value.specs.declared.schema.Relation.{Relation}
use Rattle.db_value.proofs.SchemaLemmas.{relation_widths}
use Rattle.db_image.proofs.whole.widths_at.Goals as goal

pub widths_of-requires : goal.widths_of-requires
widths_of-requires c =
    let columns : List Column = (get_or c.args.relations.now c.args.at no_relation).columns in
    let is : c.as_slice.result.now ≡ columns = c.as_slice.ensures ∙ ap (λ (r : Relation). r.columns) (get_or_default c.args.relations.now c.args.at c.index-relations-at.result no_relation c.requires.within) in
    ap (λ (ks : List Column). are_widths (map (λ (k : Column). k.width) ks)) is ∙ relation_widths c.args.relations.now c.args.at c.requires.counted c.requires.within
