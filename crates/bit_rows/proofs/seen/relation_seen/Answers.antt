use Rattle.std.proofs.Common.{◌<◌, ◌^◌, ◌∙◌, ap, sym, subst, length, List}
use Rattle.std.proofs.lemmas.List.Elements.{All-same}
use Rattle.hybrid_view.specs.Live.{Piece, Lived, IsLived}
use Rattle.hybrid_view.specs.Spots.{spots_of_pieces, lived_of}
use Rattle.bit_rows.specs.Seen.{AreCovered, IsSmall}
use Rattle.bit_rows.proofs.seen.relation_seen.Goals as goal

pub live_count-count-requires-clause-covered : goal.live_count-count-requires-clause-covered
live_count-count-requires-clause-covered c = subst AreCovered (sym (c.deref.ensures.value ∙ c.in_ok-parts.ensures.parts)) c.requires.lived.covered

pub live_count-count-requires-clause-few : goal.live_count-count-requires-clause-few
live_count-count-requires-clause-few c = subst (λ (ps : List Piece). length (spots_of_pieces ps) < 2 ^ 32) (sym (c.deref.ensures.value ∙ c.in_ok-parts.ensures.parts)) c.requires.keys

pub of_parts-requires-clause-lived : goal.of_parts-requires-clause-lived
of_parts-requires-clause-lived c = subst (λ (ps : List Piece). IsLived (lived_of ps)) (sym c.in_ok-parts.ensures.parts) c.requires.lived

pub of_parts-requires-clause-count : goal.of_parts-requires-clause-count
of_parts-requires-clause-count c = c.live_count-count.ensures ∙ ap (λ (ps : List Piece). length (spots_of_pieces ps)) c.deref.ensures.value

pub returns-clause-seen : goal.returns-clause-seen
returns-clause-seen c = c.of_parts.ensures ∙ ap lived_of c.in_ok-parts.ensures.parts

pub returns-clause-small : goal.returns-clause-small
returns-clause-small c = All-same IsSmall _ _ (ap (λ (l : Lived). l.pieces) c.of_parts.ensures) c.in_ok-parts.ensures.small
