use Rattle.std.proofs.Common.{◌≡◌, ◌++◌, ◌∷◌, [], length, take}
use Rattle.std.specs.Int.{w32, w64, to_le_bytes, cast_unsigned}
use Rattle.std.specs.List.{flat_map}
use Rattle.image_text.specs.declared.image.Format.TheVariants.{Two}
use Rattle.image_text.specs.Spelling.{relation_bytes}
use Rattle.image_parts.proofs.writing.put_relations.Given as goal

abbrev pub invariant-loop-relation : goal.invariant-loop-relation
invariant-loop-relation l = l.out.items ≡ (l.fn.out.items ++ length l.relations ∷ []) ++ flat_map (relation_bytes Two) (take l.relation-index l.relations)
