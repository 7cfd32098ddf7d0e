use Rattle.std.proofs.Common.{◌≡◌, ◌++◌, drop, true}
use Rattle.std.specs.List.{list_all}
use Rattle.db_value.specs.Relations.{has_columns}
use Rattle.new_image.specs.Image.{relations_bytes}
use Rattle.new_image.proofs.image.put_relations.Given as goal

abbrev pub invariant-loop-relation : goal.invariant-loop-relation
invariant-loop-relation l = record {
  all : l.out.items ++ relations_bytes (drop l.relation-index l.relations) ≡ l.initial.out.items ++ relations_bytes l.relations;
  counted : list_all has_columns (drop l.relation-index l.relations) ≡ true;
}
