-- As many records of pieces are live as bits of them are true.
use Rattle.std.proofs.Common.{◌≡◌, ℕ, suc, ◌+◌, ◌<◌, ◌≤◌, Bool, true, false, cond, List, [], ◌∷◌, ◌++◌, length, drop, Some, refl, arith, ap, ◌∙◌}
use Rattle.std.proofs.lemmas.List.Sums.{sum_by-cons}
use Rattle.std.proofs.lemmas.List.{length-append, get_or_past, drop_all, drop_more}
use Rattle.db_value.specs.declared.record.Record.{Record}
use Rattle.plain_bits.specs.Truth.{bit_of, count_true}
use Rattle.hybrid_view.specs.Live.{Piece, no_piece, piece_at}
use Rattle.hybrid_view.specs.Spots.{spots_in, spots_of_piece, spots_of_pieces}
use Rattle.bit_rows.specs.Seen.{AreCovered}

-- ---- in one piece

no_spots : (xs : List Record) (segment slot : ℕ) (p : ℕ → Bool) → ((i : ℕ) → p (slot + i) ≡ false) → length (spots_in segment slot xs p) ≡ 0
no_spots [] segment slot p f = refl
no_spots (x ∷ xs) segment slot p f =
    let z : slot ≡ slot + 0 = omega arith in
    ap (λ b. length (cond b (record { key = x.key; place = Some (segment, slot) } ∷ spots_in segment (suc slot) xs p) (spots_in segment (suc slot) xs p))) (ap p z ∙ f 0)
    ∙ no_spots xs segment (suc slot) p (λ i. let e : suc slot + i ≡ slot + suc i = omega arith in ap p e ∙ f (suc i))

count_spots : (bits : List Bool) (xs : List Record) (segment slot : ℕ) (p : ℕ → Bool) → ((i : ℕ) → p (slot + i) ≡ bit_of bits i) → length bits ≤ length xs → length (spots_in segment slot xs p) ≡ count_true bits
count_spots [] xs segment slot p f h = no_spots xs segment slot p (λ i. f i ∙ get_or_past [] i false (omega arith))
count_spots (b ∷ bs) [] segment slot p f h = absurd (omega (arith, h))
count_spots (b ∷ bs) (x ∷ xs) segment slot p f h =
    by b (count_spots bs xs segment (suc slot) p (λ i. let e : suc slot + i ≡ slot + suc i = omega arith in ap p e ∙ f (suc i)) (omega (arith, h)))
    (let e : slot ≡ slot + 0 = omega arith in ap p e ∙ f 0)
  where
    by : (q : Bool) → length (spots_in segment (suc slot) xs p) ≡ count_true bs → p slot ≡ q → length (spots_in segment slot (x ∷ xs) p) ≡ count_true (q ∷ bs)
    by true r e =
        let n : count_true (true ∷ bs) ≡ 1 + count_true bs = sum_by-cons (λ b. cond b 1 0) true bs in
        ap (λ t. length (cond t (record { key = x.key; place = Some (segment, slot) } ∷ spots_in segment (suc slot) xs p) (spots_in segment (suc slot) xs p))) e
        ∙ (let g : suc (length (spots_in segment (suc slot) xs p)) ≡ count_true (true ∷ bs) = omega (arith, n, r) in g)
    by false r e =
        let n : count_true (false ∷ bs) ≡ 0 + count_true bs = sum_by-cons (λ b. cond b 1 0) false bs in
        ap (λ t. length (cond t (record { key = x.key; place = Some (segment, slot) } ∷ spots_in segment (suc slot) xs p) (spots_in segment (suc slot) xs p))) e
        ∙ (let g : length (spots_in segment (suc slot) xs p) ≡ count_true (false ∷ bs) = omega (arith, n, r) in g)

-- ---- one piece after another

pub counted_begun : (ps : List Piece) → length (spots_of_pieces (drop 0 ps)) ≡ length (spots_of_pieces ps)
counted_begun ps = refl

pub counted_first : (ps : List Piece) (i : ℕ) → AreCovered ps → i < length ps → length (spots_of_pieces (drop i ps)) ≡ count_true (piece_at ps i).bits + length (spots_of_pieces (drop (i + 1) ps))
counted_first ps i covered h =
    let p : Piece = piece_at ps i in
    let a : length (spots_of_pieces (drop i ps)) ≡ length (spots_of_piece p ++ spots_of_pieces (drop (i + 1) ps)) = ap (λ (qs : List Piece). length (spots_of_pieces qs)) (drop_more ps i no_piece h) in
    let b = length-append (spots_of_piece p) (spots_of_pieces (drop (i + 1) ps)) in
    let n : length (spots_of_piece p) ≡ count_true p.bits = count_spots p.bits p.rows.records p.segment 0 (bit_of p.bits) (λ i. let z : 0 + i ≡ i = omega arith in ap (bit_of p.bits) z) (covered i h) in
    omega (arith, a, b, n)

pub counted_last : (ps : List Piece) (i : ℕ) → length ps ≤ i → length (spots_of_pieces (drop i ps)) ≡ 0
counted_last ps i h = ap (λ (qs : List Piece). length (spots_of_pieces qs)) (drop_all i ps h)
