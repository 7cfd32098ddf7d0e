use Rattle.std.proofs.Common.{◌≡◌, ℕ, ◌<◌, ◌++◌, ◌∙◌, ap, sym, arith, length, take, List}
use Rattle.std.proofs.lemmas.List.{take_more, append_assoc}
use Rattle.db_value.specs.declared.report.Live.{Live}
use Rattle.hybrid_view.specs.Live.{Piece, Lived, no_piece, piece_at, lived_at}
use Rattle.bit_rows.specs.Kept.{KeptLane}
use Rattle.bit_rows.specs.Told.{live_of_piece, lives_of}
use Rattle.bit_rows.proofs.ToldLemmas.{lives_more}
use Rattle.bit_rows.proofs.told.put_lane.Goals as goal

pub loop-index-preserved : goal.loop-index-preserved
loop-index-preserved c =
    let k : KeptLane = c.args.lane.now in
    let s : ℕ = c.args.segment in
    let ps : List Piece = (lived_at k.head c.args.relation).pieces in
    let i : ℕ = c.loop-index.index in
    let start : List Live = c.args.lives.now.items in
    let live : c.relation-live.result.now ≡ lived_at k.head c.args.relation = c.relation-live.ensures ∙ ap (λ (ls : List Lived). lived_at ls c.args.relation) c.head.ensures in
    let many = ap (λ (l : Lived). length l.pieces) live in
    let lt : i < length ps = omega (arith, c.loop-index-test.true, c.parts-index-end.ensures.count, many) in
    let part : c.part.result.now ≡ piece_at ps i = c.part.ensures ∙ ap (λ (l : Lived). piece_at l.pieces i) live in
    c.in_ok-put_part.ensures
    ∙ (λ j. c.loop-index.invariant j ++ live_of_piece (c.name.ensures j) s (part j))
    ∙ append_assoc start (lives_of k.name s (take i ps)) (live_of_piece k.name s (piece_at ps i))
    ∙ ap (λ (xs : List Live). start ++ xs) (sym (ap (lives_of k.name s) (take_more ps i no_piece lt) ∙ lives_more k.name s (take i ps) (piece_at ps i)))
