use Rattle.std.proofs.Common.{◌≡◌, ◌++◌, ◌∷◌, [], length, take}
use Rattle.std.specs.Int.{w32, w64, to_le_bytes, cast_unsigned}
use Rattle.std.specs.List.{flat_map}
use Rattle.image_text.specs.Spelling.{version_bytes}
use Rattle.image_parts.proofs.writing.put_versions.Given as goal

abbrev pub invariant-loop-version : goal.invariant-loop-version
invariant-loop-version l = l.out.items ≡ (l.fn.out.items ++ to_le_bytes w32 (length l.versions)) ++ flat_map version_bytes (take l.version-index l.versions)
