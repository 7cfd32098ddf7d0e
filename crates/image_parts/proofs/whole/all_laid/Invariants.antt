use Rattle.std.proofs.Common.{◌≡◌, ◌&&◌, length, drop}
use Rattle.std.specs.List.{list_all}
use Rattle.image_parts.specs.Whole.{heads_once, keys_once}
use Rattle.image_parts.proofs.whole.all_laid.Given as goal

abbrev pub invariant-loop-part : goal.invariant-loop-part
invariant-loop-part l = list_all (λ ss. heads_once (length l.lasts) ss && keys_once l.lasts ss) (drop l.part-index l.segments) ≡ list_all (λ ss. heads_once (length l.lasts) ss && keys_once l.lasts ss) l.segments
