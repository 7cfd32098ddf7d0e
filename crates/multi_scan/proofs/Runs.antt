-- The rows of a run: what is equal to the first row, at the front.
use Rattle.std.proofs.Common.{◌≡◌, ◌+◌, ◌<◌, ◌≤◌, ◌-◌, ℕ, zero, suc, length, get_or, arith, Bool, true, false, cond, List, [], ◌∷◌, ◌++◌, take, drop, ap, sym, ◌∙◌, refl, subst, append_assoc, length-append}
use Rattle.std.specs.List.{AllByRecursion}
use Rattle.std.proofs.Math.Seq.{take-suc}
use Rattle.std.proofs.Math.ListN.{drop_of_length-le}
use Rattle.std.proofs.lemmas.Grind.{flat_map-append}
use Rattle.std.proofs.lemmas.List.{append-nil, drop_more, drop-drop, length-drop, get_or-drop}
use Rattle.db_value.specs.Marks.{mark, marked_here}
use Rattle.db_value.specs.Order.{record_eq}
use Rattle.db_value.proofs.OrderLemmas.{record_is, record_same, record_flip}
use Rattle.db_value.specs.declared.record.Record.{Record}
use Rattle.db_value.specs.declared.record.Marked.{Marked}
use Rattle.multi_scan.specs.Found.{joined, run_length, positions_of, Ascends, AreInOrder, HasPositions}

-- a row and the positions of its run
abbrev pub run_row : Record → List ℕ → List Marked → Marked
run_row row ps ms = record { row = row; positions = ps ++ positions_of (take (run_length row ms) ms) }

abbrev Splits : Record → List ℕ → List Marked → Type 0
Splits row ps ms = joined (record { row = row; positions = ps } ∷ ms) ≡ run_row row ps ms ∷ joined (drop (run_length row ms) ms)

alone : (row : Record) (ps : List ℕ) (ms : List Marked) → record { row = row; positions = ps } ∷ ms ≡ record { row = row; positions = ps ++ [] } ∷ ms
alone row ps ms = λ i. record { row = row; positions = sym (append-nil ps) i } ∷ ms

split_same : (row : Record) (ps qs : List ℕ) (ms : List Marked) → Splits row qs ms → Splits row ps (record { row = row; positions = qs } ∷ ms)
split_same row ps qs ms rest = rw (rest, record_same row) refl

split_other : (row : Record) (ps : List ℕ) (g : Marked) (ms : List Marked) → record_eq g.row row ≡ false → Splits g.row g.positions ms → Splits row ps (g ∷ ms)
split_other row ps g ms other rest = let back : record_eq row g.row ≡ false = record_flip row g.row ∙ other in rw (other, rest, back) (alone row ps (run_row g.row g.positions ms ∷ joined (drop (run_length g.row ms) ms)))

-- what is joined begins with the row of the first run
pub joined_run : (row : Record) (ps : List ℕ) (ms : List Marked) → Splits row ps ms
joined_run row ps [] = alone row ps []
joined_run row ps (g ∷ ms) = elim (record_eq g.row row) as (λ b. record_eq g.row row ≡ b → Splits row ps (g ∷ ms)) [
  | true ↦ λ e. subst (λ (r : Record). Splits row ps (record { row = r; positions = g.positions } ∷ ms)) (sym (record_is g.row row e)) (split_same row ps g.positions ms (joined_run row g.positions ms))
  | false ↦ λ e. split_other row ps g ms e (joined_run g.row g.positions ms)
] refl

order_more : (ms ns : List Marked) (m n : Marked) → AreInOrder ms ns → n.row ≡ m.row → Ascends m.positions n.positions → AreInOrder (ms ++ m ∷ []) (ns ++ n ∷ [])
order_more [] [] m n a r p = (r, p, tt)
order_more [] (y ∷ ns) m n a r p = absurd a
order_more (x ∷ ms) [] m n a r p = absurd a
order_more (x ∷ ms) (y ∷ ns) m n a r p = (a.0, a.1, order_more ms ns m n a.2 r p)

-- the rows so far are those of the runs that were joined
abbrev pub IsJoined : List Marked → List Marked → List Marked → Type 0
IsJoined found rest rows = (done : List Marked) × (joined found ≡ done ++ joined rest) × AreInOrder done rows

-- a run more
pub run_more : (found rows next rest others run more : List Marked) (first : Marked) (ps : List ℕ) (k : ℕ) → rest ≡ first ∷ others → k ≡ run_length first.row others → run ≡ take k others → more ≡ drop k others
    → Ascends (first.positions ++ positions_of run) ps → next ≡ rows ++ record { row = first.row; positions = ps } ∷ [] → IsJoined found rest rows → IsJoined found more next
run_more found rows next rest others run more first ps k r n f b p e h =
    let run_is : run ≡ take (run_length first.row others) others = f ∙ ap (λ i. take i others) n in
    let more_is : more ≡ drop (run_length first.row others) others = b ∙ ap (λ i. drop i others) n in
    let row : Marked = run_row first.row first.positions others in
    let parts : joined rest ≡ row ∷ joined more = ap joined r ∙ joined_run first.row first.positions others ∙ ap (λ (t : List Marked). row ∷ joined t) (sym more_is) in
    let these : Ascends row.positions ps = subst (λ (t : List Marked). Ascends (first.positions ++ positions_of t) ps) run_is p in
    let all : joined found ≡ (h.0 ++ row ∷ []) ++ joined more = h.1 ∙ ap (λ (t : List Marked). h.0 ++ t) parts ∙ sym (append_assoc h.0 (row ∷ []) (joined more)) in
    (h.0 ++ row ∷ [], all, subst (λ (t : List Marked). AreInOrder (h.0 ++ row ∷ []) t) (sym e) (order_more h.0 rows row (record { row = first.row; positions = ps }) h.2 refl these))

abbrev no_marked : Marked
no_marked = record { row = record { key = 0; fields = [] }; positions = [] }

-- the rows from a place on begin with the row at that place
pub next_is : (found : List Marked) (at : ℕ) → at < length found → drop at found ≡ marked_here found at ∷ drop (at + 1) found
next_is found at h = drop_more found at no_marked h

-- a run more, by its places
pub run_at : (found rows next : List Marked) (at to : ℕ) (row : Record) (ps : List ℕ) → at < to → to ≤ length found → row ≡ (marked_here found at).row → to - (at + 1) ≡ run_length row (drop (at + 1) found)
    → Ascends (positions_of (take (to - at) (drop at found))) ps → next ≡ rows ++ record { row = row; positions = ps } ∷ [] → IsJoined found (drop at found) rows → IsJoined found (drop to found) next
run_at found rows next at to row ps lt le is n p e h =
    let first = marked_here found at in
    let others = drop (at + 1) found in
    let k = to - (at + 1) in
    let rest : drop at found ≡ first ∷ others = next_is found at (omega (arith, lt, le)) in
    let many : to - at ≡ suc (to - (at + 1)) = omega (arith, lt) in
    let run : take (to - at) (drop at found) ≡ first ∷ take k others = ap (λ m. take m (drop at found)) many ∙ ap (take (suc k)) rest in
    let place : to ≡ at + 1 + (to - (at + 1)) = omega (arith, lt) in
    let more : drop to found ≡ drop k others = ap (λ m. drop m found) place ∙ sym (drop-drop k (at + 1) found) in
    run_more found rows next (drop at found) others (take k others) (drop to found) first ps k rest (n ∙ ap (λ (r : Record). run_length r others) is) refl more
    (subst (λ (l : List Marked). Ascends (positions_of l) ps) run p) (e ∙ ap (λ (r : Record). rows ++ record { row = r; positions = ps } ∷ []) is) h

-- behind the last row all are joined
pub run_all : (found rows : List Marked) (at : ℕ) → length found ≤ at → IsJoined found (drop at found) rows → AreInOrder (joined found) rows
run_all found rows at le h =
    let all : h.0 ≡ joined found = sym (h.1 ∙ ap (λ (l : List Marked). h.0 ++ joined l) (drop_of_length-le found le) ∙ append-nil h.0) in
    subst (λ (l : List Marked). AreInOrder l rows) all h.2

-- one row more is this one, or it is another
pub same_more : (found : List Marked) (at : ℕ) (row : Record) → at < length found → record_eq (marked_here found at).row row ≡ true → run_length row (drop at found) ≡ suc (run_length row (drop (at + 1) found))
same_more found at row h e = ap (run_length row) (next_is found at h) ∙ ap (λ (b : Bool). cond b (suc (run_length row (drop (at + 1) found))) 0) e

pub other_here : (found : List Marked) (at : ℕ) (row : Record) → at < length found → record_eq (marked_here found at).row row ≡ false → run_length row (drop at found) ≡ 0
other_here found at row h e = ap (run_length row) (next_is found at h) ∙ ap (λ (b : Bool). cond b (suc (run_length row (drop (at + 1) found))) 0) e

pub none_left : (found : List Marked) (at : ℕ) (row : Record) → length found ≤ at → run_length row (drop at found) ≡ 0
none_left found at row h = ap (run_length row) (drop_of_length-le found h)

-- the positions of one row more
pub positions_more : (found : List Marked) (from at : ℕ) → from ≤ at → at < length found → positions_of (take (at + 1 - from) (drop from found)) ≡ positions_of (take (at - from) (drop from found)) ++ (marked_here found at).positions
positions_more found from at le h =
    let n = length-drop from found in
    let one : at + 1 - from ≡ suc (at - from) = omega (arith, le) in
    let place : from + (at - from) ≡ at = omega (arith, le) in
    let here : get_or (drop from found) (at - from) no_marked ≡ marked_here found at = get_or-drop from found (at - from) no_marked ∙ ap (marked_here found) place in
    ap (λ m. positions_of (take m (drop from found))) one
    ∙ ap positions_of (take-suc (drop from found) (at - from) no_marked (omega (arith, le, h, n)))
    ∙ flat_map-append (λ (m : Marked). m.positions) (take (at - from) (drop from found)) (get_or (drop from found) (at - from) no_marked ∷ [])
    ∙ ap (λ (ps : List ℕ). positions_of (take (at - from) (drop from found)) ++ ps) (append-nil (get_or (drop from found) (at - from) no_marked).positions ∙ ap (λ (m : Marked). m.positions) here)

has_at : (found : List Marked) (at : ℕ) → AllByRecursion HasPositions found → at < length found → 0 < length (marked_here found at).positions
has_at [] at each h = absurd (omega (arith, h))
has_at (m ∷ found) zero each h = each.0.some
has_at (m ∷ found) (suc at) each h = has_at found at each.1 (omega (arith, h))

-- rows have positions
pub some_positions : (found : List Marked) (from to : ℕ) → AllByRecursion HasPositions found → from < to → to ≤ length found → 0 < length (positions_of (take (to - from) (drop from found)))
some_positions found from to each lt le =
    let first = marked_here found from in
    let k = to - (from + 1) in
    let many : to - from ≡ suc (to - (from + 1)) = omega (arith, lt) in
    let run : take (to - from) (drop from found) ≡ first ∷ take k (drop (from + 1) found) = ap (λ m. take m (drop from found)) many ∙ ap (take (suc k)) (next_is found from (omega (arith, lt, le))) in
    let some = has_at found from each (omega (arith, lt, le)) in
    omega (arith, some, ap (λ (l : List Marked). length (positions_of l)) run, length-append first.positions (positions_of (take k (drop (from + 1) found))))

-- rows with their positions, and one more
pub mark_more : (rows : List Record) (r : Record) (marks : List (List ℕ)) (p : List ℕ) → length marks ≡ length rows → mark (rows ++ r ∷ []) (marks ++ p ∷ []) ≡ mark rows marks ++ record { row = r; positions = p } ∷ []
mark_more [] r [] p e = refl
mark_more [] r (q ∷ marks) p e = absurd (omega (arith, e))
mark_more (x ∷ rows) r [] p e = absurd (omega (arith, e))
mark_more (x ∷ rows) r (q ∷ marks) p e = ap (λ (l : List Marked). record { row = x; positions = q } ∷ l) (mark_more rows r marks p (omega (arith, e)))
