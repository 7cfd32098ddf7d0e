use Rattle.std.proofs.Common.{◌≡◌, map, take}
use Rattle.db_image.specs.Parts.{version_part}
use Rattle.db_image.proofs.versions.versions_of.Given as goal

abbrev pub invariant-loop-version : goal.invariant-loop-version
invariant-loop-version l = l.parts.items ≡ map version_part (take l.version-index l.versions)
