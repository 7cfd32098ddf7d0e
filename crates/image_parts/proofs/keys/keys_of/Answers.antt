use Rattle.std.proofs.Common.{◌≡◌, ◌+◌, ◌++◌, ◌∷◌, [], ℕ, List, take, ap, sym, ◌∙◌}
use Rattle.std.proofs.lemmas.List.{flat_map_more, take_more}
use Rattle.image_text.specs.declared.image.SegmentPart.{SegmentPart}
use Rattle.image_parts.specs.Walk.{own_keys, all_keys}
use Rattle.image_parts.proofs.keys.keys_of.Goals as goal

pub loop-part-preserved : goal.loop-part-preserved
loop-part-preserved c =
    let i : ℕ = c.loop-part.part-index in
    let ss : List SegmentPart = c.args.segments.now in
    let s : SegmentPart = c.part-item.result in
    let more : take (i + 1) ss ≡ take i ss ++ s ∷ [] = take_more ss i s c.loop-part-test.true ∙ ap (λ (x : SegmentPart). take i ss ++ x ∷ []) (sym c.part-item.is) in
    c.in_ok-put_keys.ensures ∙ ap (λ (ks : List ℕ). ks ++ own_keys s) c.loop-part.invariant ∙ flat_map_more own_keys [] (take i ss) s ∙ ap (λ (xs : List SegmentPart). all_keys xs) (sym more)
