use Rattle.std.proofs.Common.{◌≡◌, take}
use Rattle.std.specs.List.{All}
use Rattle.image_text.specs.Spelling.{FitsRelation}
use Rattle.db_image.proofs.image_versions.relations_image.Given as goal

abbrev pub invariant-loop-relation : goal.invariant-loop-relation
invariant-loop-relation l = record {
  value : l.made.items ≡ take l.relation-index l.relations;
  fits : All FitsRelation l.made.items;
}
