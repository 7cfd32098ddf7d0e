use Rattle.std.proofs.Common.{◌-◌, List, ℕ, ap, length, arith}
use Rattle.std.proofs.lemmas.List.FromFn.{length-map-range_with_len}
use Rattle.hybrid_view.specs.Deltas.{slots_of}
use Rattle.db_image.specs.Images.{word_in}
use Rattle.db_image.proofs.image_deltas.delta_image.Goals as goal

pub returns-clause-few : goal.returns-clause-few
returns-clause-few c =
    let a = ap (λ (xs : List ℕ). length xs) c.of.ensures in
    let b = ap (λ (xs : List ℕ). length xs) c.in_ok-words.ensures in
    let n = length-map-range_with_len (word_in (slots_of c.in_ok-bits.bits)) c.first_word-first.result (c.end_word-end.result - c.first_word-first.result) in
    omega (arith, a, b, n, c.end_word-end.type_inv)
